-- What one plan after another gives and meets.
use Rattle.std.proofs.Common.{◌≡◌, min, refl, sym, ◌∙◌, ap, append_assoc, arith}
use Rattle.cacheability.specs.declared.max_age.MaxAge.{MaxAge}
use Rattle.cacheability.specs.declared.max_age.MaxAge.TheVariants.{Permanent, Seconds}
use Rattle.cacheability.specs.MaxAge.{least}
use Rattle.content_state.specs.Read.{answer, cover}
use Rattle.content_state.specs.Context.{Visit, value}
use Rattle.content_state.specs.Plan.{Plan, Done, Write, Attach, Reading, Asking, Clock, Part, ◌>>=◌}
use Rattle.content_state.specs.Met.{Met, met_tags, met_context, met_age, met_place, met_both, result_of, met}

pub least_assoc : (a b c : MaxAge) → least (least a b) c ≡ least a (least b c)
least_assoc Permanent b c = refl
least_assoc (Seconds a) Permanent c = refl
least_assoc (Seconds a) (Seconds b) Permanent = refl
least_assoc (Seconds a) (Seconds b) (Seconds c) =
    let same : min (min a b) c ≡ min a (min b c) = omega arith in ap Seconds same

pub least_permanent : (a : MaxAge) → least a Permanent ≡ a
least_permanent Permanent = refl
least_permanent (Seconds a) = refl

pub both_assoc : (a b c : Met) → met_both (met_both a b) c ≡ met_both a (met_both b c)
both_assoc a b c = λ i. record {
  tags = append_assoc a.tags b.tags c.tags i;
  contexts = append_assoc a.contexts b.contexts c.contexts i;
  age = least_assoc a.age b.age c.age i;
  places = append_assoc a.places b.places c.places i;
}

-- what a plan and then another give is what the second gives with what the first gave
pub result-bind : {A B : Type 0} (p : Plan A) (f : A → Plan B) (v : Visit) → result_of (p >>= f) v ≡ result_of (f (result_of p v)) v
result-bind (Done a) f v = refl
result-bind (Write bs k) f v = result-bind k f v
result-bind (Attach l k) f v = result-bind k f v
result-bind (Reading r k) f v = result-bind (k (answer v.rows r)) f v
result-bind (Asking c k) f v = result-bind (k (value v c)) f v
result-bind (Clock age k) f v = result-bind (k v.moment) f v
result-bind (Part h k) f v = result-bind k f v

-- a step and a plan after it, and then another plan
after_step : {A B : Type 0} (step : Met) (k : Plan A) (f : A → Plan B) (v : Visit) → met (k >>= f) v ≡ met_both (met k v) (met (f (result_of k v)) v) → met_both step (met (k >>= f) v) ≡ met_both (met_both step (met k v)) (met (f (result_of k v)) v)
after_step step k f v rest = ap (met_both step) rest ∙ sym (both_assoc step (met k v) (met (f (result_of k v)) v))

-- what a plan and then another meet is what both meet, the second with what the first gave
pub met-bind : {A B : Type 0} (p : Plan A) (f : A → Plan B) (v : Visit) → met (p >>= f) v ≡ met_both (met p v) (met (f (result_of p v)) v)
met-bind (Done a) f v = refl
met-bind (Write bs k) f v = met-bind k f v
met-bind (Attach l k) f v = met-bind k f v
met-bind (Reading r k) f v =
    after_step (met_tags (cover v.rows r)) (k (answer v.rows r)) f v (met-bind (k (answer v.rows r)) f v)
met-bind (Asking c k) f v = after_step (met_context c) (k (value v c)) f v (met-bind (k (value v c)) f v)
met-bind (Clock age k) f v = after_step (met_age (Seconds age)) (k v.moment) f v (met-bind (k v.moment) f v)
met-bind (Part h k) f v = after_step (met_place h) k f v (met-bind k f v)
