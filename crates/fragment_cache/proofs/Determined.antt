-- A plan makes the same on every visit that agrees on what it needs.
use Rattle.std.proofs.Common.{subst, arith}
use Rattle.content_state.specs.Read.{Answer, answer}
use Rattle.content_state.specs.Context.{Value, value}
use Rattle.content_state.specs.Plan.{Plan, Done, Write, Attach, Reading, Asking, Clock, Part, Made}
use Rattle.fragment_cache.specs.Determined.{IsMadeAgain, IsDetermined, PagesAreMadeAgain, ElementsAreMadeAgain, EntriesAreMadeAgain, PagesAreDetermined, ElementsAreDetermined}

pub made_again : {A : Type 0} (p : Plan A) → IsMadeAgain p
made_again (Done a) v w x shown libraries needs same made = made
made_again (Write bs k) v w x shown libraries needs same made = (made.0, made.1, made_again k v w x made.0 libraries needs same made.2)
made_again (Attach l k) v w x shown libraries needs same made = (made.0, made.1, made_again k v w x shown made.0 needs same made.2)
made_again (Reading r k) v w x shown libraries needs same made = (
  same.covers r made.0,
  subst (λ (a : Answer r). Made (k a) w x shown libraries needs) (same.answers r made.0)
      (made_again (k (answer v.rows r)) v w x shown libraries needs same made.1),
)
made_again (Asking c k) v w x shown libraries needs same made = (
  same.contexts c made.0,
  subst (λ (a : Value c). Made (k a) w x shown libraries needs) (same.values c made.0)
      (made_again (k (value v c)) v w x shown libraries needs same made.1),
)
made_again (Clock age k) v w x shown libraries needs same made = (
  made.0,
  (let earlier = made.1 in let later = same.not_before in omega arith),
  made.2,
  made_again (k made.0) v w x shown libraries needs same made.3,
)
made_again (Part h k) v w x shown libraries needs same made = (made.0, made.1, made_again k v w x made.0 libraries needs same made.2)

-- so it may be shown there, until it is over
determined : {A : Type 0} (p : Plan A) → IsDetermined p
determined p v w x shown libraries needs made same not_over = record {
  needs = needs;
  not_over = not_over;
  made = made_again p v w x shown libraries needs same made;
}

pub pages_again : PagesAreMadeAgain
pages_again p = made_again p

pub elements_again : ElementsAreMadeAgain
elements_again p = made_again p

pub entries_again : EntriesAreMadeAgain
entries_again p = made_again p

pub pages : PagesAreDetermined
pages p = determined p

pub elements : ElementsAreDetermined
elements p = determined p
