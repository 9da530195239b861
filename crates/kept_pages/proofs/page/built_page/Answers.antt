use Rattle.std.proofs.Common.{refl, sym, subst}
use Rattle.std.specs.Arc.{arc_value}
use Rattle.std.specs.Option.{option_copied}
use Rattle.cacheability.specs.declared.cacheability.Cacheability.{Cacheability}
use Rattle.content_state.specs.Met.{met_nothing}
use Rattle.cache_entries.specs.declared.key.Subject.{Subject}
use Rattle.cache_entries.specs.declared.key.Subject.TheVariants as subject
use Rattle.cache_entries.specs.declared.kept.Bin.TheVariants as bin
use Rattle.cache_entries.specs.Entries.{IsClosed}
use Rattle.cache_entries.specs.Sound.{IsAskedFor}
use Rattle.page_meaning.specs.Meaning.{meaning}
use Rattle.render_array.specs.declared.element.Element.TheVariants as element
use Rattle.render_array.specs.Whole.{whole}
use Rattle.render_canvas.specs.Board.{pieces_of}
use Rattle.element_entries.specs.Keys.{visit}
use Rattle.element_entries.specs.Making.{Bubbles}
use Rattle.kept_pages.specs.Joins.{IsWhole}
use Rattle.kept_pages.specs.Needed.{OfWhole}
use Rattle.kept_pages.specs.Held.{Closes}
use Rattle.kept_pages.proofs.Counting.{built_up, counts_target}
use Rattle.kept_pages.proofs.Current.{nobody_by}
use Rattle.kept_pages.proofs.Entries.{page_has_no_parts}
use Rattle.kept_pages.proofs.FewPieces.{whole_again}
use Rattle.kept_pages.proofs.OfFrames.{made_page}
use Rattle.kept_pages.proofs.page.built_page.Goals as goal

pub page_of-requires-clause-makes : goal.page_of-requires-clause-makes
page_of-requires-clause-makes g c =
    let v = visit c.args.reader.now in
    let new = c.compact-compact.new.joined in
    made_page v new (whole_again (whole c.args.reader.now.ask.path element.Page) v c.in_ok-filled.filled.joined new c.compact-compact.ensures.same c.in_ok-filled.ensures.whole)

pub keep_filled-requires-clause-whole : goal.keep_filled-requires-clause-whole
keep_filled-requires-clause-whole g c =
    let r = c.args.reader.now in
    let new = c.compact-compact.new.joined in
    subst (λ (s : Subject). IsWhole (meaning s) (visit r) new) (sym c.requires.asked)
    (subst (λ path. IsWhole (whole path element.Page) (visit r) new) c.requires.reads.right.path
    (whole_again (whole r.ask.path element.Page) (visit r) c.in_ok-filled.filled.joined new c.compact-compact.ensures.same c.in_ok-filled.ensures.whole))

pub keep_filled-requires-clause-closed : goal.keep_filled-requires-clause-closed
keep_filled-requires-clause-closed g c =
    let r = c.args.reader.now in
    let new = c.compact-compact.new.joined in
    subst (λ (s : Subject). IsClosed s (pieces_of new.segments)) (sym c.requires.asked)
    (page_has_no_parts r new (whole_again (whole r.ask.path element.Page) (visit r) c.in_ok-filled.filled.joined new c.compact-compact.ensures.same c.in_ok-filled.ensures.whole))

pub returns-clause-told : goal.returns-clause-told
returns-clause-told g c =
    let r = c.args.reader.now in
    let f = c.in_ok-filled.filled in
    let kept = arc_value c.in_ok-keep_filled.field-0.entry in (
      kept,
      built_up r met_nothing (OfWhole r.ask.path (visit r)) bin.Anonymous (subject.Target r.ask.target) (option_copied c.args.told) f.joined.cacheability kept _ _ _ 0 f.built c.in_ok-page.page.built refl
          (counts_target (subject.Target r.ask.target) kept) c.in_ok-page.ensures.built
          (subst (λ (needed : Cacheability). Bubbles (visit r) needed kept.cacheability) c.compact-compact.ensures.same.cacheability c.in_ok-keep_filled.ensures.says) c.in_ok-filled.ensures.told
          (λ shelves told. subst (λ (s : Subject). Closes r shelves bin.Anonymous s (option_copied c.args.told) kept (g.H.House.sees c.keep_filled.new.house)) c.requires.asked (c.in_ok-keep_filled.ensures.told shelves told)),
    )

pub keep_filled-requires-clause-asked : goal.keep_filled-requires-clause-asked
keep_filled-requires-clause-asked g c =
    let r = c.args.reader.now in
    subst (λ (s : Subject). IsAskedFor s r.viewer r.ask) (sym c.requires.asked)
    (refl, nobody_by r.state.rows r.ask.cookie r.moment r.viewer c.requires.viewer c.requires.nobody)
