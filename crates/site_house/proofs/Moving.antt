-- Moves of a house follow one another.
use Rattle.std.proofs.Common.{◌≡◌, ◌∙◌, ◌≤◌, ◌++◌, ◌⊎◌, List, [], ℕ, ap, sym, refl, arith, append_assoc, inl, inr}
use Rattle.std.proofs.lemmas.List.{append-nil}
use Rattle.content_state.specs.declared.commit.Commit.{Commit}
use Rattle.content_state.specs.Replay.{Begins}
use Rattle.site_house.specs.House.{HouseView, CountRose, Moves}

pub begins_same : (log : List Commit) → Begins log log
begins_same log = ([], sym (append-nil log))

pub begins_more : (a b c : List Commit) → Begins a b → Begins b c → Begins a c
begins_more a b c f g = (f.0 ++ g.0, g.1 ∙ ap (λ (xs : List Commit). xs ++ g.0) f.1 ∙ append_assoc a f.0 g.0)

pub moves_same : (house : HouseView) → Moves house house
moves_same house = record {
  base = refl;
  number = refl;
  opened = refl;
  name = refl;
  grows = begins_same house.seen;
  never_falls = omega arith;
  steadfast = refl;
  never_fails = λ _. refl;
  cause = inl refl;
  own = λ own. own;
  told = refl;
  unkept = omega arith;
}

-- a cause of either is one of both
cause_of_both : {k k' k'' f f' f'' : ℕ} → f ≤ f' → f' ≤ f'' → (k' ≡ k) ⊎ CountRose f f' → (k'' ≡ k') ⊎ CountRose f' f'' → (k'' ≡ k) ⊎ CountRose f f''
cause_of_both up more a b = elim a [
  | inr r ↦ inr (omega arith)
  | inl e ↦ elim b [
    | inr r ↦ inr (omega arith)
    | inl d ↦ inl (d ∙ e)
  ]
]

pub moves_on : {first second third : HouseView} → Moves first second → Moves second third → Moves first third
moves_on {first} {second} {third} a b =
    let up = a.never_falls in
    let more = b.never_falls in
    let unkept = a.unkept in
    let still = b.unkept in
    record {
      base = b.base ∙ a.base;
      number = b.number ∙ a.number;
      opened = b.opened ∙ a.opened;
      name = b.name ∙ a.name;
      grows = begins_more first.seen second.seen third.seen a.grows b.grows;
      never_falls = omega arith;
      steadfast = b.steadfast ∙ a.steadfast;
      never_fails = λ steadfast. b.never_fails (a.steadfast ∙ steadfast) ∙ a.never_fails steadfast;
      cause = cause_of_both a.never_falls b.never_falls a.cause b.cause;
      own = λ own. b.own (a.own own);
      told = b.told ∙ a.told;
      unkept = omega arith;
    }
