-- The rule holds before the first step, and the first step keeps it.
use Rattle.std.proofs.Common.{◌≡◌, ◌≢◌, ℕ, zero, suc, ◌<◌, List, [], ◌∷◌, length, ◌==◌, true≢false, inl, inr, Option, Some, None, ⊎_elim, refl, sym, ap, subst}
use mathlib.Core.Option.{some, some-ne-none}
use lib.ListN.{get_elem?}
use mathlib.Core.Option as maybe
use prog.Atomic.{either}
use Rattle.std.specs.Prelude.{slice_set}
use Rattle.atomic_table.specs.Table.{Me, takes, chain, Allows}
use Rattle.turn_rule.specs.declared.notes.HallNote.{HallNote}
use Rattle.turn_rule.specs.declared.notes.HallPart.{HallPart}
use Rattle.turn_rule.specs.declared.notes.DeskNote.{DeskNote}
use Rattle.turn_rule.specs.declared.notes.Note.{Note}
use Rattle.turn_rule.specs.Logs.{hall_part, desk_part, StandsFor}
use Rattle.turn_rule.specs.Rule.{Account, Fits, IsFresh, Opened, unopened, Counted, count_of}
use Rattle.turn_rule.specs.Steps.{founding, with_hall, with_desk, Opens}
use Rattle.turn_laws.specs.Laws.{TablesBeginFresh, SitesOpen}
use Rattle.turn_rule.proofs.Claims.{each_set}
use Rattle.turn_rule.proofs.Books.{opening_books, opening_sound}
use Rattle.turn_rule.proofs.Accounts.{some_same, one_not_zero}
use Rattle.turn_laws.proofs.Opened.{K, Owes}

module _ {S : Type 0} (noted : S → Option HallPart) (noted_desk : S → Option DeskNote) where
  pub begin_fresh : TablesBeginFresh noted noted_desk
  begin_fresh x y off out = inl (record { words = refl; home = (x, y, refl, off, out); views = refl })

  abbrev opener : HallNote → Account
  opener h = record { books = opening_books h; owner = 0; clerk = 0; head = 0; holder = λ _. 0 }

  opens_at : (id : ℕ) (y : S) (h : HallNote) (d : DeskNote) (n : ℕ) (said : maybe.Option S) (homes : List (maybe.Option S)) (x x' : S) → said ≡ some y → noted y ≡ Some (hall_part h) → noted_desk y ≡ Some d → StandsFor d (desk_part h) → h.pending ≡ None
      → ((counted : Counted) → count_of counted h.tally < 18446744073709551616) → n ≡ length h.log → homes ≡ some x ∷ some x' ∷ [] → noted x ≡ None → noted_desk x' ≡ None → get_elem? (unopened ∷ []) id ≡ some unopened
      → Owes noted noted_desk id (unopened, []) 0 (λ m. either (m == 0) n m) (λ _ w. Opens noted noted_desk said (unopened, []) w) (record { words = 0 ∷ 1 ∷ 1 ∷ []; homes = homes; views = unopened ∷ [] })
  opens_at (suc id) y h d n said homes x x' says is desk stands none small count home off out at = absurd (some-ne-none unopened (sym at))
  opens_at zero y h d n said homes x x' says is desk stands none small count home off out at =
      let w = with_hall (Some (hall_part h)) (with_desk (Some (desk_part h)) (founding (record { made = 0; opened = h }))) in
      let here : Fits (opener h) 1 1 0 w = record { old = refl; hall = λ p e. (refl, sym (some_same (hall_part h) p e), one_not_zero); desk = λ p e. (refl, sym (some_same (desk_part h) p e), one_not_zero); founder = λ f e. (refl, sym (some_same (record { made = 0; opened = h }) f e)); passes = tt } in (
        w,
        chain (takes 1 x') (takes 0 x),
        (ap (λ (l : List (maybe.Option S)). get_elem? l 1) home, ap (λ (l : List (maybe.Option S)). get_elem? (slice_set l 1 maybe.none) 0) home),
        inr (record {
          account = opener h;
          gate = 1;
          door = 1;
          is_open = record {
            words = ap (λ (m : ℕ). m ∷ 1 ∷ 1 ∷ []) count;
            home = λ z. absurd (one_not_zero z);
            away = λ _. (w, refl, refl);
            desk = λ z. absurd (one_not_zero z);
            desk_away = λ _. (w, refl, refl);
            sound = opening_sound h none small;
            fits = each_set (Fits (opener h) 1 1) (unopened ∷ []) 0 w (λ j u ne e. absurd (no_other j u ne e)) here;
            placed = λ n p e. absurd (some-ne-none p (sym e));
          };
        }),
        (y, h, d, x, x', says, is, desk, stands, off, out, refl),
      )
    where
      no_other : (j : ℕ) (u : Note) → j ≢ 0 → get_elem? (unopened ∷ []) j ≡ some u → ⊥
      no_other zero u ne e = ne refl
      no_other (suc j) u ne e = some-ne-none u (sym e)

  pub sites_opened : SitesOpen noted noted_desk
  sites_opened slots id me y h d n said one is says at_home desk stands none small count = subst (λ (t : ℕ × Me S Note). Allows (K noted noted_desk) t.0 id t.1 0 (λ m. either (m == 0) n m) (λ _ w. Opens noted noted_desk said t.1 w)) (λ k. (sym one k, sym is k)) here
    where
      here : Allows (K noted noted_desk) 2 id (unopened, []) 0 (λ m. either (m == 0) n m) (λ _ w. Opens noted noted_desk said (unopened, []) w)
      here s k full at tiny = ⊎_elim
          (λ (f : IsFresh noted noted_desk s). subst (λ (t : List ℕ × List Note). Owes noted noted_desk id (unopened, []) 0 (λ m. either (m == 0) n m) (λ _ w. Opens noted noted_desk said (unopened, []) w) (record { words = t.0; homes = s.homes; views = t.1 })) (λ i. (sym f.words i, sym f.views i))
          (opens_at id y h d n said s.homes f.home.0 f.home.1 says at_home desk stands none small count f.home.2 f.home.3 f.home.4 (subst (λ (l : List Note). get_elem? l id ≡ some unopened) f.views at)))
          (λ (x : Opened noted noted_desk s). absurd (true≢false ((x.is_open.fits id unopened at).old)))
          k
