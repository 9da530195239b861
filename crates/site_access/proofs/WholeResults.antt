-- What a result tells, and what it depends on, where it is known whole.
use Rattle.std.proofs.Common.{ℕ, List, [], ◌∷◌, ◌≡◌, Bool, true, false, not, refl, sym, ap, subst, ◌∙◌, if◌then◌else◌, Option, Some, None, Result, Ok, Err}
use Rattle.std.specs.Result.{IfOk}
use Rattle.std.specs.List.{list_any}
use Rattle.std.specs.declared.cmp.Ordering.{Ordering}
use Rattle.std.specs.declared.cmp.Ordering.TheVariants.{Equal}
use Rattle.std.specs.Ordering.{match_ordering}
use Rattle.std.specs.BTreeSet.{insert_key}
use Rattle.std.proofs.lemmas.Cmp.{tied_itself, nat_list_cmp_total}
use Rattle.cacheability.specs.declared.op.Op.{Op}
use Rattle.cacheability.specs.declared.tag.Tag.{Tag}
use Rattle.cacheability.specs.declared.tag.Tag.TheVariants as tag
use Rattle.cacheability.specs.declared.context.Context.TheVariants as context
use Rattle.cacheability.specs.declared.cacheability.Cacheability.{Cacheability}
use Rattle.cacheability.specs.Tag.{tag_text, tag_cmp}
use Rattle.cacheability.specs.InOrder.{union}
use Rattle.cacheability.specs.Cacheability.{merged, always_same}
use Rattle.access_result.specs.declared.reason.Reason.TheVariants as reason
use Rattle.access_result.specs.declared.access_result.AccessResult.{AccessResult}
use Rattle.access_result.specs.AccessResult.{or_result}
use Rattle.content_rows.specs.declared.cell.Cell.{Cell}
use Rattle.content_rows.specs.declared.row.Row.{Row}
use Rattle.content_state.specs.declared.ask.Ask.{Ask}
use Rattle.content_state.specs.declared.ask.Viewer.{Viewer}
use Rattle.content_state.specs.Context.{Visit}
use Rattle.content_state.specs.Plan.{Plan, Made}
use Rattle.content_rows.specs.declared.row.Node.{Node}
use Rattle.content_rows.specs.declared.permission.ViewGrants.{ViewGrants}
use Rattle.indexed_rows.specs.Rows.{node_of}
use Rattle.content_state.specs.Viewer.{may, view_grants_of, bypass_node_access, access_content}
use Rattle.site_access.specs.Access.{Access, Allowed, Denied, by_rules, votes_in, access_to_node}
use Rattle.site_access.specs.Plans.{grants_allow}
use Rattle.site_access.specs.Depends.{access_of, told, lasting, vote, by_permissions, rules_depend, grants_depend, asks_owner, votes_depend, votes_in_depend, node_depends}
use Rattle.site_access.proofs.PlansDecide.{grants_same}
use Rattle.site_access.specs.Decided.{needs_of, IsDecided}
use Rattle.site_access.proofs.SilentPlans.{Reads, reads_made}

-- the answer that a result tells, and what it depends on
access_told : (x : Access) (depends : Cacheability) → access_of (told x depends) ≡ x
access_told Allowed depends = refl
access_told (Denied (reason.Permission permission)) depends = refl
access_told (Denied (reason.Grant o n)) depends = refl
access_told (Denied (reason.OwnerOnly field)) depends = refl
access_told (Denied reason.Unrecognized) depends = refl
access_told (Denied reason.NoSession) depends = refl

told_depends : (x : Access) (depends : Cacheability) → (told x depends).cacheability ≡ depends
told_depends Allowed depends = refl
told_depends (Denied why) depends = refl

pub answer_is : (x : Access) (depends : Cacheability) (r : AccessResult) → r ≡ told x depends → access_of r ≡ x
answer_is x depends r whole = ap access_of whole ∙ access_told x depends

pub depends_is : (x : Access) (depends : Cacheability) (r : AccessResult) → r ≡ told x depends → r.cacheability ≡ depends
depends_is x depends r whole = ap (λ (s : AccessResult). s.cacheability) whole ∙ told_depends x depends

pub told_is : (x : Access) (depends : Cacheability) (r : AccessResult) → r ≡ told x depends → r ≡ told x r.cacheability
told_is x depends r whole = whole ∙ ap (told x) (sym (depends_is x depends r whole))

-- two facts of one result
pub both_ok : {X Y : Type 0} (r : Result X Y) (P Q R : X → Type 0) → ((x : X) → P x → Q x → R x) → IfOk r P → IfOk r Q → IfOk r R
both_ok (Ok x) P Q R both p q = both x p q
both_ok (Err e) P Q R both p q = tt

-- what a plan decides that meets just what the result depends on
pub decided_is : (p : Plan Access) (rows : List (Cell × Row)) (viewer : Viewer) (x : Access) (depends : Cacheability) (r : AccessResult) → ((ask : Ask) (moment : ℕ) → Reads p (record { rows = rows; viewer = viewer; ask = ask; moment = moment }) always_same x depends) → r ≡ told x depends → IsDecided p rows viewer (access_of r) r.cacheability.tags r.cacheability.contexts
decided_is p rows viewer x depends r reads whole ask moment =
    let v : Visit = record { rows = rows; viewer = viewer; ask = ask; moment = moment } in
    let needs = needs_of r.cacheability.tags r.cacheability.contexts in
    let same = depends_is x depends r whole in
    subst (λ y. Made p v y [] [] needs) (sym (answer_is x depends r whole))
    (reads_made p v x depends needs (reads ask moment) (ap (λ (c : Cacheability). c.tags) same) (ap (λ (c : Cacheability). c.contexts) same))

-- a choice of answers, with what each depends on
pub told_then : (b : Bool) (x y : Access) (d e : Cacheability) → b ≡ true → told x d ≡ told (if b then x else y) (if b then d else e)
told_then true x y d e chosen = refl
told_then false x y d e chosen = cc

pub told_else : (b : Bool) (x y : Access) (d e : Cacheability) → b ≡ false → told y e ≡ told (if b then x else y) (if b then d else e)
told_else true x y d e chosen = cc
told_else false x y d e chosen = refl

-- what is put in beside itself is there once
put_again : {K : Type 0} (cmp : K → K → Ordering) (x : K) → cmp x x ≡ Equal → insert_key cmp (x ∷ []) x ≡ x ∷ []
put_again cmp x same = ap (λ (o : Ordering). match_ordering o (x ∷ x ∷ []) (x ∷ []) (x ∷ x ∷ [])) same

row_once : (n : ℕ) → union tag_cmp (tag.Node n ∷ []) (tag.Node n ∷ []) ≡ tag.Node n ∷ []
row_once n = put_again tag_cmp (tag.Node n) (tied_itself nat_list_cmp_total (tag_text (tag.Node n)))

-- what the rules and the grants of a node depend on together
both_depend : (n : ℕ) (asks : Bool) → merged (rules_depend n asks) (grants_depend n) ≡ votes_depend n asks
both_depend n true = ap (λ (tags : List Tag). lasting tags (context.User ∷ context.NodeGrantsView ∷ context.UserPermissions ∷ [])) (row_once n)
both_depend n false = refl

combined_votes : (a b : Bool) (o : Op) (n : ℕ) (l r : Cacheability) → or_result (vote a None l) (vote b (Some (reason.Grant o n)) r) ≡ told (if list_any (λ x. x) (a ∷ b ∷ []) then Allowed else Denied (reason.Grant o n)) (merged l r)
combined_votes true true o n l r = refl
combined_votes true false o n l r = refl
combined_votes false true o n l r = refl
combined_votes false false o n l r = refl

-- what the two votes for a node tell together
pub votes_told : (a b : Bool) (o : Op) (n : ℕ) (asks : Bool) → or_result (vote a None (rules_depend n asks)) (vote b (Some (reason.Grant o n)) (grants_depend n)) ≡ told (if list_any (λ x. x) (a ∷ b ∷ []) then Allowed else Denied (reason.Grant o n)) (votes_depend n asks)
votes_told a b o n asks =
    combined_votes a b o n (rules_depend n asks) (grants_depend n)
    ∙ ap (told (if list_any (λ x. x) (a ∷ b ∷ []) then Allowed else Denied (reason.Grant o n))) (both_depend n asks)

-- what is decided about a node by votes
pub voted : (rows : List (Cell × Row)) (viewer : Viewer) (o : Op) (n : ℕ) (node : Node) (held : ViewGrants) (r : AccessResult) → node_of rows n ≡ Some node → held ≡ view_grants_of rows viewer → may rows viewer bypass_node_access ≡ false → may rows viewer access_content ≡ true → r ≡ or_result (vote (by_rules rows viewer o node) None (rules_depend n (asks_owner o node))) (vote (grants_allow o node held) (Some (reason.Grant o n)) (grants_depend n)) → r ≡ told (access_to_node rows viewer o n) (node_depends rows viewer o n)
voted rows viewer o n node held r there held_is bypass content combined =
    combined
    ∙ votes_told (by_rules rows viewer o node) (grants_allow o node held) o n (asks_owner o node)
    ∙ ap (λ (b : Bool). told (if list_any (λ x. x) (by_rules rows viewer o node ∷ b ∷ []) then Allowed else Denied (reason.Grant o n)) (votes_depend n (asks_owner o node))) (ap (grants_allow o node) held_is ∙ grants_same rows viewer o node bypass)
    ∙ ap (λ (found : Option Node). told (if list_any (λ x. x) (votes_in rows viewer o found) then Allowed else Denied (reason.Grant o n)) (votes_in_depend o n found)) (sym there)
    ∙ told_else (not (may rows viewer access_content)) (Denied (reason.Permission access_content)) (if list_any (λ x. x) (votes_in rows viewer o (node_of rows n)) then Allowed else Denied (reason.Grant o n)) by_permissions (votes_in_depend o n (node_of rows n)) (ap not content)
    ∙ told_else (may rows viewer bypass_node_access) Allowed (if not (may rows viewer access_content) then Denied (reason.Permission access_content) else (if list_any (λ x. x) (votes_in rows viewer o (node_of rows n)) then Allowed else Denied (reason.Grant o n))) by_permissions (if not (may rows viewer access_content) then by_permissions else votes_in_depend o n (node_of rows n)) bypass
