-- What a plan gives on a visit, at whatever moments its readings of the clock stand.
use Rattle.std.proofs.Common.{ℕ, List, ◌≡◌, sym, subst}
use Rattle.std.specs.Prelude.{Option, Some, None}
use Rattle.content_state.specs.declared.element.Hole.{Hole}
use Rattle.content_state.specs.declared.element.Library.{Library}
use Rattle.content_state.specs.Read.{answer}
use Rattle.content_state.specs.Context.{Visit, value}
use Rattle.content_state.specs.Plan.{Piece, Plan, Done, Write, Attach, Reading, Asking, Clock, Part, ◌>>=◌, Needs, Made}
use Rattle.content_state.specs.Met.{result_of}
use Rattle.content_state.specs.Places.{Filling, at_place, filled_in}
use Rattle.site_access.proofs.SilentPlans.{IsSilent}

-- what the plan gives on the visit has the property
abbrev pub GivesOn : {A : Type 0} → (A → Type 0) → Visit → Plan A → Type 0
GivesOn P v (Done a) = P a
GivesOn P v (Write bs k) = GivesOn P v k
GivesOn P v (Attach l k) = GivesOn P v k
GivesOn P v (Reading r k) = GivesOn P v (k (answer v.rows r))
GivesOn P v (Asking c k) = GivesOn P v (k (value v c))
GivesOn P v (Clock age k) = (t : ℕ) → GivesOn P v (k t)
GivesOn P v (Part h k) = GivesOn P v k

-- it is something
abbrev pub IsAny : {A : Type 0} → A → Type 0
IsAny a = Unit {0}

pub gives_any : {A : Type 0} (v : Visit) (p : Plan A) → GivesOn IsAny v p
gives_any v (Done a) = tt
gives_any v (Write bs k) = gives_any v k
gives_any v (Attach l k) = gives_any v k
gives_any v (Reading r k) = gives_any v (k (answer v.rows r))
gives_any v (Asking c k) = gives_any v (k (value v c))
gives_any v (Clock age k) = λ t. gives_any v (k t)
gives_any v (Part h k) = gives_any v k

-- one plan, and then another by what the first gave
pub gives_then : {A B : Type 0} (P : A → Type 0) (Q : B → Type 0) (v : Visit) (p : Plan A) (f : A → Plan B) → GivesOn P v p → ((a : A) → P a → GivesOn Q v (f a)) → GivesOn Q v (p >>= f)
gives_then P Q v (Done a) f gives next = next a gives
gives_then P Q v (Write bs k) f gives next = gives_then P Q v k f gives next
gives_then P Q v (Attach l k) f gives next = gives_then P Q v k f gives next
gives_then P Q v (Reading r k) f gives next = gives_then P Q v (k (answer v.rows r)) f gives next
gives_then P Q v (Asking c k) f gives next = gives_then P Q v (k (value v c)) f gives next
gives_then P Q v (Clock age k) f gives next = λ t. gives_then P Q v (k t) f (gives t) next
gives_then P Q v (Part h k) f gives next = gives_then P Q v k f gives next

-- whatever the first gave
pub gives_after : {A B : Type 0} (Q : B → Type 0) (v : Visit) (p : Plan A) (f : A → Plan B) → ((a : A) → GivesOn Q v (f a)) → GivesOn Q v (p >>= f)
gives_after Q v p f next = gives_then IsAny Q v p f (gives_any v p) (λ a any. next a)

-- a plan that shows nothing and looks at no clock gives one thing
pub gives_silent : {A : Type 0} (v : Visit) (p : Plan A) (x : A) → IsSilent p v → result_of p v ≡ x → GivesOn (λ a. a ≡ x) v p
gives_silent v (Done a) x silent is = is
gives_silent v (Reading r k) x silent is = gives_silent v (k (answer v.rows r)) x silent is
gives_silent v (Asking c k) x silent is = gives_silent v (k (value v c)) x silent is
gives_silent v (Write bs k) x silent is = absurd silent
gives_silent v (Attach l k) x silent is = absurd silent
gives_silent v (Clock age k) x silent is = absurd silent
gives_silent v (Part h k) x silent is = absurd silent

gives_at : {A : Type 0} (P : A → Type 0) (v : Visit) (o : Option (Plan (Option ℕ))) (h : Hole) (k : Plan A) → GivesOn P v k → GivesOn P v (at_place o h k)
gives_at P v None h k gives = gives
gives_at P v (Some child) h k gives = gives_after P v child (λ _. k) (λ _. gives)

-- what a plan gives it gives where its places are filled in
pub gives_filled : {A : Type 0} (P : A → Type 0) (v : Visit) (fill : Filling) (p : Plan A) → GivesOn P v p → GivesOn P v (filled_in fill p)
gives_filled P v fill (Done a) gives = gives
gives_filled P v fill (Write bs k) gives = gives_filled P v fill k gives
gives_filled P v fill (Attach l k) gives = gives_filled P v fill k gives
gives_filled P v fill (Reading r k) gives = gives_filled P v fill (k (answer v.rows r)) gives
gives_filled P v fill (Asking c k) gives = gives_filled P v fill (k (value v c)) gives
gives_filled P v fill (Clock age k) gives = λ t. gives_filled P v fill (k t) (gives t)
gives_filled P v fill (Part h k) gives = gives_at P v (fill h) h (filled_in fill k) (gives_filled P v fill k gives)

-- what is made has the property
pub gives_made : {A : Type 0} (P : A → Type 0) (p : Plan A) (v : Visit) (x : A) (shown : List Piece) (libraries : List Library) (needs : Needs) → GivesOn P v p → Made p v x shown libraries needs → P x
gives_made P (Done a) v x shown libraries needs gives made = subst P (sym made.0) gives
gives_made P (Write bs k) v x shown libraries needs gives made = gives_made P k v x made.0 libraries needs gives made.2
gives_made P (Attach l k) v x shown libraries needs gives made = gives_made P k v x shown made.0 needs gives made.2
gives_made P (Reading r k) v x shown libraries needs gives made = gives_made P (k (answer v.rows r)) v x shown libraries needs gives made.1
gives_made P (Asking c k) v x shown libraries needs gives made = gives_made P (k (value v c)) v x shown libraries needs gives made.1
gives_made P (Clock age k) v x shown libraries needs gives made = gives_made P (k made.0) v x shown libraries needs (gives made.0) made.3
gives_made P (Part h k) v x shown libraries needs gives made = gives_made P k v x made.0 libraries needs gives made.2
