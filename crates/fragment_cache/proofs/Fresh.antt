-- What is sound and fresh is shown.
use Rattle.std.proofs.Common.{ℕ, List, [], ◌∷◌, ◌≡◌, sym, ◌∙◌, ap, subst, inl, inr, Contains, map}
use Rattle.tag_counts.specs.Counts.{sum_of}
use Rattle.cacheability.specs.declared.context.Context.{Context}
use Rattle.cacheability.specs.declared.context.Context.TheVariants as context
use Rattle.cacheability.specs.declared.tag.Tag.{Tag}
use Rattle.content_state.specs.State.{State}
use Rattle.content_state.specs.declared.commit.Commit.{Commit}
use Rattle.indexed_rows.specs.Rows.{InOrder}
use Rattle.content_state.specs.SiteRules.{IsValidState}
use Rattle.content_state.specs.Context.{Visit, Value, value}
use Rattle.content_state.specs.Plan.{AllIn}
use Rattle.content_state.specs.Read.{Read, PathRoute, SiteRow, UserRow, RoleRow, cover}
use Rattle.state_commits.specs.Edits.{after, SameRead, AreFitFor}
use Rattle.state_commits.proofs.Logs.{sums_tell_counts}
use Rattle.state_commits.proofs.Covered.{covered_reads_stay}
use Rattle.cache_contexts.specs.LeftOut.{SameValues}
use Rattle.cache_contexts.specs.Values.{visit_on, as_any, valued}
use Rattle.cache_contexts.proofs.LeftOut.{SameRows, covered_values, covered_still}
use Rattle.cache_contexts.proofs.Tests.{head_or_tail, nowhere}
use Rattle.cache_entries.specs.Entries.{needs_of, pieces_of}
use Rattle.cache_entries.specs.Sound.{IsOf}
use Rattle.fragment_cache.specs.Determined.{Agree}
use Rattle.fragment_cache.specs.Fresh.{StatesAgree, FreshIsShown}
use Rattle.fragment_cache.proofs.Determined.{made_again}

AllIn-at : {A : Type 0} (xs ys : List A) → AllIn xs ys → (y : A) → Contains xs y → Contains ys y
AllIn-at [] ys all y h = nowhere y h
AllIn-at (x ∷ xs) ys all y h = elim (head_or_tail x xs y h) [
  | inl e ↦ subst (λ z. Contains ys z) (sym e) all.0
  | inr held ↦ AllIn-at xs ys all.1 y held
]

-- what the tags cover is the same on both states
abbrev SameReads : List Tag → State → State → Type 0
SameReads tags s t = sum_of s.counts tags ≡ sum_of t.counts tags → (r : Read) → AllIn (cover s.rows r) tags → SameRead r s t

fit : (s t : State) → IsValidState s → IsValidState t → (r : Read) → AreFitFor r s t
fit s t valid valid' (PathRoute path) = (valid, valid')
fit s t valid valid' _ = tt

along_log : (base : State) (log : List Commit) → InOrder base.rows → (j k : ℕ) → IsValidState (after base log j) → IsValidState (after base log k) → (tags : List Tag) → SameReads tags (after base log j) (after base log k)
along_log base log in_order j k valid valid' tags sums r all =
    covered_reads_stay base log in_order j k r (fit (after base log j) (after base log k) valid valid' r)
    (λ g held. sums_tell_counts base log j k tags sums g (AllIn-at (cover (after base log j).rows r) tags all g held))

same_reads : (base : State) (log : List Commit) (s t : State) → IsOf base log s → IsOf base log t → (tags : List Tag) → SameReads tags s t
same_reads base log s t of of' tags =
    subst (λ x. SameReads tags x t) (sym of.state_is)
    (subst (λ y. SameReads tags (after base log of.count) y) (sym of'.state_is)
    (along_log base log of.in_order of.count of'.count (subst IsValidState of.state_is of.valid) (subst IsValidState of'.state_is of'.valid) tags))

pub states_agree : StatesAgree
states_agree base log s t of of' viewer viewer' ask ask' moment moment' right right' needs sums values in_order =
    let reads = same_reads base log s t of of' needs.tags sums in
    let rows : SameRows needs.tags s t = record {
      user = λ u held. (reads (UserRow u) (held, tt)).answers;
      role = λ r held. (reads (RoleRow r) (held, tt)).answers;
      site = λ held. (reads SiteRow (held, tt)).answers;
    } in
    record {
      answers = λ r all. (reads r all).answers;
      covers = λ r all. subst (λ ts. AllIn ts needs.tags) (reads r all).covers all;
      values = covered_values s t viewer viewer' ask ask' moment moment' right right' needs rows values;
      contexts = covered_still s t viewer viewer' ask ask' moment moment' right right' needs rows values;
      not_before = in_order;
    }

-- a value of any tells which one it is
same_any : (c : Context) (x y : Value c) → as_any c x ≡ as_any c y → x ≡ y
same_any context.Language x y e = cc
same_any context.Theme x y e = cc
same_any context.User x y e = cc
same_any context.UserRoles x y e = cc
same_any context.UserPermissions x y e = cc
same_any context.NodeGrantsView x y e = cc
same_any context.Url x y e = cc
same_any context.UrlPath x y e = cc
same_any context.IsFront x y e = cc
same_any context.QueryArgs x y e = cc
same_any (context.QueryArg name) x y e = cc
same_any context.Session x y e = cc
same_any context.SessionExists x y e = cc
same_any (context.MenuTrail name) x y e = cc

first_same : {A : Type 0} (x y : A) (xs ys : List A) → x ∷ xs ≡ y ∷ ys → x ≡ y
first_same x y xs ys e = cc

others_same : {A : Type 0} (x y : A) (xs ys : List A) → x ∷ xs ≡ y ∷ ys → xs ≡ ys
others_same x y xs ys e = cc

same_values : (v w : Visit) (cs : List Context) → map (valued v) cs ≡ map (valued w) cs → SameValues cs v w
same_values v w [] e c h = nowhere c h
same_values v w (d ∷ ds) e c h =
    let first : valued v d ≡ valued w d = first_same (valued v d) (valued w d) (map (valued v) ds) (map (valued w) ds) e in
    elim (head_or_tail d ds c h) [
      | inl is ↦ subst (λ (x : Context). ◌≡◌ {A = Value x} (value v x) (value w x)) (sym is) (same_any d (value v d) (value w d) (ap (λ x. x.value) first))
      | inr held ↦ same_values v w ds (others_same (valued v d) (valued w d) (map (valued v) ds) (map (valued w) ds) e) c held
    ]

pub fresh_is_shown : FreshIsShown
fresh_is_shown meaning base log key e state viewer ask moment of right sound fresh =
    let v : Visit = visit_on sound.state sound.viewer sound.ask e.made_moment in
    let w : Visit = visit_on state viewer ask moment in
    let made = sound.made_on in
    let whole = made.has.makes in
    let agree : Agree v w (needs_of e) =
    states_agree base log sound.state state sound.of_log of sound.viewer viewer sound.ask ask e.made_moment moment sound.right right (needs_of e)
    (sym made.sum ∙ fresh.sum)
    (same_values v w e.cacheability.contexts (sym made.values ∙ fresh.values_are))
    fresh.not_before in
    record {
      has = record {
        makes = record {
          attached = whole.attached;
          made = made_again (meaning key.subject) v w e.status (pieces_of e.segments) whole.attached (needs_of e) agree whole.made;
          same = whole.same;
        };
        closed = made.has.closed;
      };
      not_over = fresh.not_after;
    }
