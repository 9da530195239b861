use Rattle.std.proofs.Common.{◌≡◌, ◌++◌, ◌-◌, ◌<◌, ◌/◌, length, take, drop, subst, arith}
use Rattle.std.specs.Prelude.{Result, Ok, Err, OnOk}
use Rattle.std.specs.Option.{IsSome}
use Rattle.std.proofs.lemmas.List.{length-drop, length-take-le}
use Rattle.std.proofs.lemmas.List.Elements.{All-take, All-drop}
use Rattle.indexed_rows.specs.Rows.{node_of}
use Rattle.site_access.specs.Viewing.{viewable_of, NotesNodes}
use Rattle.site_access.proofs.NotedNodes.{found_then, notes_beside, halves}
use Rattle.site_access.proofs.account.Account.+note_viewable.Goals as goal

pub note_viewable-requires : goal.note_viewable-requires
note_viewable-requires t c =
    let ids = c.args.ids.now in
    let large : 16 < length ids = c.if-ids-le16.false in
    let long : length (take (length ids / 2) ids) ≡ length ids / 2 = length-take-le (length ids / 2) ids (omega arith) in
    (omega (arith, large, long, c.decreases), (c.requires.account, All-take (λ n. IsSome (node_of c.args.state.now.rows n)) (length ids / 2) ids c.requires.there))

pub note_viewable-requires-2 : goal.note_viewable-requires-2
note_viewable-requires-2 t c =
    let ids = c.args.ids.now in
    let half = length ids / 2 in
    let large : 16 < length ids = c.if-ids-le16.false in
    let rest = drop half ids in
    let long : length (take (length ids - half) rest) ≡ length ids - half = length-take-le (length ids - half) rest (omega (arith, length-drop half ids)) in
    (omega (arith, large, long, c.decreases), (c.requires.account, All-take (λ n. IsSome (node_of c.args.state.now.rows n)) (length ids - half) rest (All-drop (λ n. IsSome (node_of c.args.state.now.rows n)) half ids c.requires.there)))

on_ok : {X Y P : Type 0} (r : Result X Y) → P → OnOk r P
on_ok (Ok x) p = p
on_ok (Err e) p = tt

on_three : {X Y P Q R S : Type 0} (r : Result X Y) → (P → Q → R → S) → OnOk r P → OnOk r Q → OnOk r R → OnOk r S
on_three (Ok x) f p q r = f p q r
on_three (Err e) f p q r = tt

pub returns-clause-answer : goal.returns-clause-answer
returns-clause-answer t c =
    let rows = c.args.state.now.rows in
    let viewer = c.args.self.now.viewer in
    let ids = c.args.ids.now in
    let half = length ids / 2 in
    let rest = take (length ids - half) (drop half ids) in
    on_ok c.merge.result
    (subst (λ l. c.note_viewable-2.new.found.items ≡ c.args.found.now.items ++ viewable_of rows viewer l) (halves ids half)
    (found_then rows viewer (take half ids) rest c.args.found.now.items c.note_viewable.new.found.items c.note_viewable-2.new.found.items c.in_ok-note_viewable.ensures.answer c.in_ok-note_viewable-2.ensures.answer))

pub returns-clause-depends : goal.returns-clause-depends
returns-clause-depends t c =
    let rows = c.args.state.now.rows in
    let viewer = c.args.self.now.viewer in
    let ids = c.args.ids.now in
    let half = length ids / 2 in
    let rest = take (length ids - half) (drop half ids) in
    let beside = subst (λ m. NotesNodes rows viewer rest m c.note_viewable-2.new.noted) c.new-more.ensures c.in_ok-note_viewable-2.ensures.depends in
    on_three c.merge.result
    (λ whole tags contexts. subst (λ l. NotesNodes rows viewer l c.args.noted.now c.merge.new.self) (halves ids half)
    (notes_beside rows viewer (take half ids) rest c.args.noted.now c.note_viewable.new.noted c.note_viewable-2.new.noted c.merge.new.self c.in_ok-note_viewable.ensures.depends beside whole tags contexts))
    c.merge.ensures.ok c.merge.ensures.tags c.merge.ensures.contexts
