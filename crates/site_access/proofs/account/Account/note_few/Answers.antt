use Rattle.std.proofs.Common.{◌≡◌, ◌++◌, ◌∷◌, ◌+◌, [], take, get_or, sym, subst, append-nil}
use Rattle.std.specs.Option.{IsSome}
use Rattle.std.proofs.lemmas.List.{take_more}
use Rattle.std.proofs.lemmas.List.Elements.{All-get_or}
use Rattle.indexed_rows.specs.Rows.{node_of}
use Rattle.site_access.specs.Viewing.{viewable_of, NotesNodes}
use Rattle.site_access.proofs.NotedNodes.{notes_none, notes_one, notes_then, found_then}
use Rattle.site_access.proofs.account.Account.note_few.Goals as goal

pub ids-init : goal.ids-init
ids-init c = (sym (append-nil c.args.found.now.items), notes_none _ _ c.args.noted.now)

pub note_one-requires-clause-there : goal.note_one-requires-clause-there
note_one-requires-clause-there c = All-get_or (λ n. IsSome (node_of c.args.state.now.rows n)) c.args.ids.now _ 0 c.ids-test.true c.requires.there

pub ids-preserved : goal.ids-preserved
ids-preserved c =
    let rows = c.args.state.now.rows in
    let viewer = c.args.self.now.viewer in
    let ids = c.args.ids.now in
    let i = c.ids.n-index in
    let n = get_or ids i 0 in
    let taken : take (i + 1) ids ≡ take i ids ++ n ∷ [] = take_more ids i 0 c.ids-test.true in (
      subst (λ l. c.note_one.new.found.items ≡ c.args.found.now.items ++ viewable_of rows viewer l) (sym taken)
          (found_then rows viewer (take i ids) (n ∷ []) c.args.found.now.items c.ids.found.items c.note_one.new.found.items c.ids.invariant.0 c.in_ok-note_one.ensures.answer),
      subst (λ l. NotesNodes rows viewer l c.args.noted.now c.note_one.new.noted) (sym taken)
          (notes_then rows viewer (take i ids) (n ∷ []) c.args.noted.now c.ids.noted c.note_one.new.noted c.ids.invariant.1
          (notes_one rows viewer n c.ids.noted c.note_one.new.noted c.in_ok-note_one.ensures.depends)),
    )
