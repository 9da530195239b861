-- What is accepted passed each cause of a refusal; so what is accepted keeps a state valid, where its writes fit.
use Rattle.std.proofs.Common.{◌≡◌, ℕ, List, [], ◌∷◌, refl, subst}
use Rattle.std.specs.Prelude.{Option, Some, None, map, All}
use Rattle.std.specs.List.{IsDistinct}
use Rattle.std.specs.Ordering.{eq_by_cmp}
use Rattle.content_rows.specs.CellOrder.{cell_cmp}
use Rattle.content_state.specs.State.{State}
use Rattle.indexed_rows.specs.Write.{Write}
use Rattle.content_state.specs.SiteRules.{IsValidState}
use Rattle.content_state.specs.declared.commit.Commit.{Commit}
use Rattle.json_keys.specs.declared.checked.Checked.{Checked}
use Rattle.json_keys.specs.declared.checked.Checked.TheVariants as checked
use Rattle.valid_edits.specs.Fits.{AllFit, MayGoTogether}
use Rattle.valid_edits.proofs.Kept.{kept_valid, removals_kept}
use Rattle.site_commands.specs.Causes.{Decision, Accepted, Refused, decided, of_body, of_target, commit_of, count_full, accepted}
use Rattle.site_commands.specs.Right.{OfBody, Keeps}
use Rattle.site_commands.specs.declared.answer.Done.{Done}
use Rattle.site_commands.specs.declared.answer.Refusal.{Refusal}

-- no cause of a refusal is there
abbrev pub AllNone : List (Option Refusal) → Type 0
AllNone [] = Unit {0}
AllNone (cause ∷ causes) = (cause ≡ None) × AllNone causes

-- what is accepted keeps the state valid
abbrev pub OnlyKeeps : State → ℕ → Decision → Type 0
OnlyKeeps state pass decision = (commit : Commit) (done : Done) → decision ≡ Accepted commit done → Keeps state pass commit

module _ (state : State) (pass : ℕ) where
  -- what is refused keeps all
  pub refused : (r : Refusal) → OnlyKeeps state pass (Refused r)
  refused r commit done h = absurd (never h)
    where
      never : Refused r ≡ Accepted commit done → ⊥
      never h = cc

  -- what comes after some causes keeps it, where none of them is there
  pub after_causes : (causes : List (Option Refusal)) (decision : Decision) → (AllNone causes → OnlyKeeps state pass decision) → OnlyKeeps state pass (decided causes decision)
  after_causes [] decision next = next tt
  after_causes (None ∷ causes) decision next = after_causes causes decision (λ none. next (refl, none))
  after_causes (Some r ∷ causes) decision next = refused r

  -- what follows of a body that is right
  pub after_body : {X : Type 0} (P : X → Type 0) (body : Checked X) (next : X → Decision) → OfBody P body → ((x : X) → P x → OnlyKeeps state pass (next x)) → OnlyKeeps state pass (of_body body next)
  after_body P (checked.Right x) next right keeps = keeps x right
  after_body P (checked.Broken field rule) next right keeps = refused _

  -- what follows of a row that is there
  pub after_target : {X : Type 0} (target : Option X) (next : X → Decision) → ((x : X) → target ≡ Some x → OnlyKeeps state pass (next x)) → OnlyKeeps state pass (of_target target next)
  after_target None next keeps = refused _
  after_target (Some x) next keeps = keeps x refl

  module _ (valid : IsValidState state) where
    -- an edit to distinct cells keeps the state valid, where its writes fit
    pub fitting_kept : (commit : Commit) → commit.pass ≡ pass → IsDistinct (eq_by_cmp cell_cmp) (map (λ w. w.cell) commit.writes) → AllFit state.rows commit.writes → Keeps state pass commit
    fitting_kept commit pass_is distinct fit = record {
      pass_is = pass_is;
      distinct = record { distinct = distinct };
      valid = kept_valid state commit valid fit;
    }

    -- and so it does where it is accepted, unless a count is full
    pub accepting : (commit : Commit) (done : Done) → Keeps state pass commit → OnlyKeeps state pass (accepted state commit done)
    accepting commit done keeps = after_causes (count_full state commit ∷ []) (Accepted commit done) (λ none. it)
      where
        it : OnlyKeeps state pass (Accepted commit done)
        it other done' h = let same : commit ≡ other = cc in subst (Keeps state pass) same keeps

    pub writing : (writes : List Write) (done : Done) → IsDistinct (eq_by_cmp cell_cmp) (map (λ w. w.cell) writes) → AllFit state.rows writes → OnlyKeeps state pass (accepted state (commit_of pass writes) done)
    writing writes done distinct fit = accepting (commit_of pass writes) done (fitting_kept (commit_of pass writes) refl distinct fit)

    -- an edit to distinct cells that removes rows keeps it, where they may go together
    pub removing : (writes : List Write) (done : Done) → IsDistinct (eq_by_cmp cell_cmp) (map (λ w. w.cell) writes) → All (λ w. w.row ≡ None) writes → MayGoTogether state.rows (map (λ w. w.cell) writes)
        → OnlyKeeps state pass (accepted state (commit_of pass writes) done)
    removing writes done distinct removes may = accepting (commit_of pass writes) done (record {
      pass_is = refl;
      distinct = record { distinct = distinct };
      valid = removals_kept state (commit_of pass writes) valid removes may;
    })
