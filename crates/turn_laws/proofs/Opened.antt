-- A step at a seat of an open site.
use Rattle.std.proofs.Common.{◌≡◌, ℕ, zero, suc, List, [], ◌∷◌, length, set, false, true≢false, inr, Option, ⊎_elim, refl, sym, ap, ◌∙◌, subst}
use mathlib.Core.Option.{some, some-injective, some-ne-none}
use lib.ListN.{get_elem?}
use mathlib.Core.Logic.{dite}
use native.Mathlib.Decide.{ℕ_discrete}
use Rattle.std.specs.Prelude.{slice_index}
use Rattle.atomic_table.specs.Table.{State, Me, Act, Valid, carried_after, stepped}
use Rattle.turn_rule.specs.declared.notes.HallPart.{HallPart}
use Rattle.turn_rule.specs.declared.notes.DeskNote.{DeskNote}
use Rattle.turn_rule.specs.declared.notes.Note.{Note}
use Rattle.turn_rule.specs.Logs.{hall_part, desk_part}
use Rattle.turn_rule.specs.Rule.{Account, IsOpen, IsFresh, Opened, KeepsRule, unopened}
use Rattle.turn_laws.specs.Words.{IsHallAt, home, out}
use Rattle.turn_laws.specs.Laws.{Stays, HallGoes, Leads, Lets}
use Rattle.turn_rule.proofs.Accounts.{some_same, out_stays, still_placed, unchanged}

-- the same slots and seats, at other words
abbrev pub with_words : {S : Type 0} → State S Note → List ℕ → State S Note
with_words s ws = record { words = ws; homes = s.homes; views = s.views }

module _ {S : Type 0} (noted : S → Option HallPart) (noted_desk : S → Option DeskNote) where
  abbrev pub K : State S Note → Type 0
  K = KeepsRule noted noted_desk

  -- a seat that isn't the first one's finds the site open
  pub is_opened : (s : State S Note) (id : ℕ) (v : Note) → v.fresh ≡ false → get_elem? s.views id ≡ some v → IsFresh noted noted_desk s → ⊥
  is_opened s id v old at f = one id (subst (λ (l : List Note). get_elem? l id ≡ some v) f.views at)
    where
      one : (j : ℕ) → get_elem? (unopened ∷ []) j ≡ some v → ⊥
      one zero e = true≢false (ap (λ (u : Note). u.fresh) (some-injective _ _ e) ∙ old)
      one (suc j) e = some-ne-none v (sym e)

  -- what a step owes in one state
  abbrev pub Owes : ℕ → Me S Note → ℕ → (ℕ → ℕ) → (ℕ → Me S Note → Type 0) → State S Note → Type 0
  Owes id me i f tells s = (w : Note) × (x : Act S) × Valid s.homes me.1 x × K (stepped s i (f (slice_index s.words i)) id me.1 w x) × tells (slice_index s.words i) (w, carried_after me.1 x)

  -- ---- the hall

  -- the hall of an open site is that of its books
  pub hall_is : (s : State S Note) (a : Account) (gate door : ℕ) → IsOpen noted noted_desk s a gate door → (hall : HallPart) → IsHallAt noted s hall → hall ≡ hall_part a.books.hall
  hall_is s a gate door o hall (out seat note sits has) = ((o.fits seat note sits).hall hall has).1
  hall_is s a gate door o hall (home value shut at is) =
      let there = o.home (sym (ap (λ (ws : List ℕ). slice_index ws 1) o.words) ∙ shut) in
      let same : value ≡ there.0 = some-injective value there.0 (some-injective (some value) (some there.0) (sym at ∙ there.1)) in
      some_same hall (hall_part a.books.hall) (sym is ∙ ap noted same ∙ there.2)

  -- and is there
  pub hall_there : (s : State S Note) (a : Account) (gate door : ℕ) → IsOpen noted noted_desk s a gate door → IsHallAt noted s (hall_part a.books.hall)
  hall_there s a gate door o = dite (ℕ_discrete gate 0)
      (λ e. let lies = o.home e in home lies.0 (ap (λ (ws : List ℕ). slice_index ws 1) o.words ∙ e) lies.1 lies.2)
      (λ ne. let held = o.away ne in out a.owner held.0 held.1 held.2)

  -- the rule holds of another state, and this has become of the hall
  abbrev pub Kept : (HallPart → HallPart → Type 0) → State S Note → State S Note → Type 0
  Kept goes s t = K t × HallGoes noted noted_desk goes s t

  -- it does, where the books say so
  pub kept_by : (goes : HallPart → HallPart → Type 0) (s t : State S Note) (a : Account) (gate door : ℕ) → IsOpen noted noted_desk s a gate door → (x : Opened noted noted_desk t) → goes (hall_part a.books.hall) (hall_part x.account.books.hall)
      → Kept goes (with_words s (length a.books.hall.log ∷ gate ∷ door ∷ [])) t
  kept_by goes s t a gate door o x went = (
    inr x,
    λ hall is. (
      hall_part x.account.books.hall,
      hall_there t x.account x.gate x.door x.is_open,
      subst (λ (p : HallPart). goes p (hall_part x.account.books.hall)) (sym (hall_is (with_words s (length a.books.hall.log ∷ gate ∷ door ∷ [])) a gate door worded hall is)) went,
    ),
  )
    where
      worded : IsOpen noted noted_desk (with_words s (length a.books.hall.log ∷ gate ∷ door ∷ [])) a gate door
      worded = record { words = refl; home = o.home; away = o.away; desk = o.desk; desk_away = o.desk_away; sound = o.sound; fits = o.fits; placed = o.placed }

  -- ---- a step

  -- what it owes in one state, and that this becomes of the hall
  abbrev pub OwesSo : (HallPart → HallPart → Type 0) → ℕ → Me S Note → ℕ → (ℕ → ℕ) → (ℕ → Me S Note → Type 0) → State S Note → Type 0
  OwesSo goes id me i f tells s = (w : Note) × (x : Act S) × Valid s.homes me.1 x × Kept goes s (stepped s i (f (slice_index s.words i)) id me.1 w x) × tells (slice_index s.words i) (w, carried_after me.1 x)

  -- it owes that in each state of an open site
  abbrev pub Law : (HallPart → HallPart → Type 0) → ℕ → Me S Note → ℕ → (ℕ → ℕ) → (ℕ → Me S Note → Type 0) → Type 0
  Law goes id me i f tells = (s : State S Note) (a : Account) (gate door : ℕ) → IsOpen noted noted_desk s a gate door → length s.homes ≡ 2 → get_elem? s.views id ≡ some me.0
      → OwesSo goes id me i f tells (with_words s (length a.books.hall.log ∷ gate ∷ door ∷ []))

  -- a step at a seat of an open site, where seat and table are known by equations
  pub in_open : (goes : HallPart → HallPart → Type 0) (slots id : ℕ) (me known : Me S Note) (i : ℕ) (f : ℕ → ℕ) (tells : Me S Note → ℕ → Me S Note → Type 0) → slots ≡ 2 → me ≡ known → known.0.fresh ≡ false
      → Law goes id known i f (tells known) → Leads noted noted_desk goes slots id me i f (tells me)
  in_open goes slots id me known i f tells one is old law = subst (λ (t : ℕ × Me S Note). Leads noted noted_desk goes t.0 id t.1 i f (tells t.1)) (λ k. (sym one k, sym is k)) here
    where
      here : Leads noted noted_desk goes 2 id known i f (tells known)
      here s h count at small = ⊎_elim
          (λ (x : IsFresh noted noted_desk s). absurd (is_opened s id known.0 old at x))
          (λ (x : Opened noted noted_desk s). subst (λ (ws : List ℕ). OwesSo goes id known i f (tells known) (with_words s ws)) (sym x.is_open.words) (law s x.account x.gate x.door x.is_open count at))
          h

  -- what a table asks of a step
  pub lets : (goes : HallPart → HallPart → Type 0) (slots id : ℕ) (me : Me S Note) (i : ℕ) (f : ℕ → ℕ) (tells : ℕ → Me S Note → Type 0) → Leads noted noted_desk goes slots id me i f tells → Lets noted noted_desk goes slots id me i f tells
  lets goes slots id me i f tells leads s h count at small = let t = leads s h count at small in (t.0, t.1, t.2, t.3.0, t.4)

  -- the rule holds where nothing changes
  pub stays_open : (s : State S Note) (a : Account) (gate door id : ℕ) (v : Note) → IsOpen noted noted_desk s a gate door → get_elem? s.views id ≡ some v
      → Kept Stays (with_words s (length a.books.hall.log ∷ gate ∷ door ∷ [])) (record { words = length a.books.hall.log ∷ gate ∷ door ∷ []; homes = s.homes; views = set s.views id v })
  stays_open s a gate door id v o at = kept_by Stays s (record { words = length a.books.hall.log ∷ gate ∷ door ∷ []; homes = s.homes; views = set s.views id v }) a gate door o (record {
    account = a;
    gate = gate;
    door = door;
    is_open = record {
      words = refl;
      home = o.home;
      away = λ z. out_stays (λ note. note.hall) s.views id a.owner v v (hall_part a.books.hall) at (o.away z) (λ e. e);
      desk = o.desk;
      desk_away = λ z. out_stays (λ note. note.desk) s.views id a.clerk v v (desk_part a.books.hall) at (o.desk_away z) (λ e. e);
      sound = o.sound;
      fits = unchanged s.views a gate door id v at o.fits;
      placed = still_placed s.views a id v v o.placed at refl;
    };
  }) refl
