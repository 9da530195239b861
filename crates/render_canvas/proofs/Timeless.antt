-- What a plan that reads no clock makes is what it gives, and its open places are those that it leaves open.
use Rattle.std.proofs.Common.{ℕ, List, ◌∷◌, ◌++◌, ◌≡◌, sym, ◌∙◌, ap, inl, inr}
use Rattle.cacheability.specs.declared.max_age.MaxAge.{MaxAge}
use Rattle.cacheability.specs.declared.max_age.MaxAge.TheVariants.{Permanent, Seconds}
use Rattle.cacheability.specs.MaxAge.{least}
use Rattle.cacheability.specs.InOrder.{HasBoth}
use Rattle.content_state.specs.declared.element.Library.{Library}
use Rattle.content_state.specs.Read.{answer}
use Rattle.content_state.specs.Context.{Visit, value}
use Rattle.content_state.specs.Plan.{Piece, bytes, Plan, Done, Write, Attach, Reading, Asking, Clock, Part, Needs, Made}
use Rattle.content_state.specs.Met.{result_of, met}
use Rattle.content_state.specs.Places.{SameMembers, open_places}
use Rattle.render_canvas.proofs.BoardLaws.{places_of_bytes, places-append}

pub record IsMetBy {A : Type 0} (p : Plan A) (v : Visit) (x : A) (shown : List Piece) : Type 0 where
  pub result : x ≡ result_of p v
  pub places : (met p v).places ≡ open_places shown

-- an age that is limited isn't permanent
limited : (seconds : ℕ) (age : MaxAge) → least (Seconds seconds) age ≡ Permanent → ⊥
limited seconds Permanent e = cc
limited seconds (Seconds other) e = cc

pub met_by : {A : Type 0} (p : Plan A) (v : Visit) (x : A) (shown : List Piece) (libraries : List Library) (needs : Needs) → (met p v).age ≡ Permanent → Made p v x shown libraries needs → IsMetBy p v x shown
met_by (Done a) v x shown libraries needs age made = record { result = made.0; places = sym (ap open_places made.1) }
met_by (Write bs k) v x shown libraries needs age made =
    let r = met_by k v x made.0 libraries needs age made.2 in
    record {
      result = r.result;
      places = r.places ∙ ap (λ l. l ++ open_places made.0) (sym (places_of_bytes bs)) ∙ sym (places-append (bytes bs) made.0) ∙ sym (ap open_places made.1);
    }
met_by (Attach l k) v x shown libraries needs age made =
    let r = met_by k v x shown made.0 needs age made.2 in record { result = r.result; places = r.places }
met_by (Reading r k) v x shown libraries needs age made =
    let m = met_by (k (answer v.rows r)) v x shown libraries needs age made.1 in record { result = m.result; places = m.places }
met_by (Asking c k) v x shown libraries needs age made =
    let m = met_by (k (value v c)) v x shown libraries needs age made.1 in record { result = m.result; places = m.places }
met_by (Clock seconds k) v x shown libraries needs age made = absurd (limited seconds (met (k v.moment) v).age age)
met_by (Part h k) v x shown libraries needs age made =
    let m = met_by k v x made.0 libraries needs age made.2 in
    record { result = m.result; places = ap (λ l. h ∷ l) m.places ∙ sym (ap open_places made.1) }

-- what has the old ones and those of a list has the old ones and those of a list with the same members
pub both_same : {A : Type 0} (old xs ys new : List A) → SameMembers ys xs → HasBoth old xs new → HasBoth old ys new
both_same old xs ys new same both = λ x. (
  λ h. elim ((both x).0 h) [ inl o ↦ inl o | inr a ↦ inr (same.back x a) ],
  λ h. elim h [ inl o ↦ (both x).1 (inl o) | inr b ↦ (both x).1 (inr (same.there x b)) ],
)
