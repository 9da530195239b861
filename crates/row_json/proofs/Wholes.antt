-- What the keys of a row keep together.
use Rattle.std.proofs.Common.{◌≡◌, ℕ, List, map, length, Bool, true, false, not, Option, Some, None, option_map, is_some, is_none, refl, sym, ap, ◌∙◌, cond, codes}
use Rattle.std.specs.List.{list_all, IsDistinct}
use Rattle.std.specs.Str.{bytes_eq}
use Rattle.content_rows.specs.MenuTree.{has_its_parent, reaches_top}
use Rattle.content_rows.specs.ValidRow.{IsValidNodeType, IsValidMenu, IsValidListing, IsValidBlock, is_clock, has_name, is_placed_text}
use Rattle.content_rows.specs.declared.row.Block.{Block}
use Rattle.content_rows.specs.declared.row.Link.{Link}
use Rattle.content_rows.specs.declared.row.Listing.{Listing}
use Rattle.content_rows.specs.declared.row.Menu.{Menu}
use Rattle.content_rows.specs.declared.row.NodeType.{NodeType}
use Rattle.json_keys.specs.declared.rule.Rule.{Rule}
use Rattle.json_keys.specs.declared.rule.Rule.TheVariants as rule
use Rattle.row_kinds.proofs.StructureLaws.{IsWholeMenu, IsPairedBlock}
use Rattle.row_json.specs.Whole.{differ, are_distinct, links_fault, type_fault, menu_fault, listing_fault, block_fault}
use Rattle.row_json.proofs.Distinct.{distinct, tests_distinct}

-- ---- content types

passed : {X : Type 0} (b : Bool) (x : X) → cond b None (Some x) ≡ None → b ≡ true
passed true x h = refl
passed false x h = absurd cc

pub type_whole : (r : NodeType) → type_fault r ≡ None → IsDistinct bytes_eq (map (λ f. f.name) r.fields)
type_whole r h =
    distinct (map (λ f. f.name) r.fields) (passed (are_distinct (map (λ f. f.name) r.fields)) (codes "fields", rule.Twice) h)

pub type_fine : (r : NodeType) → IsValidNodeType r → type_fault r ≡ None
type_fine r v = rw (tests_distinct (map (λ f. f.name) r.fields) v.once) refl

-- ---- menus

four : (a b c d : Bool) → cond (not a) (Some rule.Twice) (cond (not b) (Some rule.Absent) (cond (not c) (Some rule.Cycle) (cond (not d) (Some rule.Deep) None))) ≡ None
    → (a ≡ true) × (b ≡ true) × (c ≡ true) × (d ≡ true)
four true true true true h = (refl, refl, refl, refl)
four true true true false h = absurd cc
four true true false d h = absurd cc
four true false c d h = absurd cc
four false b c d h = absurd cc

unmapped : (o : Option Rule) → option_map {U = List ℕ × Rule} (λ f. (codes "links", f)) o ≡ None → o ≡ None
unmapped None h = refl
unmapped (Some f) h = absurd cc

pub menu_whole : (r : Menu) → menu_fault r ≡ None → IsWholeMenu r
menu_whole r h =
    let all = four (are_distinct (map (λ (l : Link). l.id) r.links)) (list_all (has_its_parent r.links) r.links) (list_all (reaches_top (length r.links) r.links) r.links) (list_all (reaches_top 9 r.links) r.links) (unmapped (links_fault r.links) h) in
    record { once = distinct (map (λ (l : Link). l.id) r.links) all.0; parents_present = all.1; no_cycle = all.2; shallow = all.3 }

all_four : (a b c d : Bool) → a ≡ true → b ≡ true → c ≡ true → d ≡ true
    → cond (not a) (Some rule.Twice) (cond (not b) (Some rule.Absent) (cond (not c) (Some rule.Cycle) (cond (not d) (Some rule.Deep) None))) ≡ None
all_four a b c d h i j k = rw (h, i, j, k) refl

pub menu_fine : (r : Menu) → IsValidMenu r → menu_fault r ≡ None
menu_fine r v =
    ap (option_map {U = List ℕ × Rule} (λ f. (codes "links", f))) (all_four (are_distinct (map (λ (l : Link). l.id) r.links)) (list_all (has_its_parent r.links) r.links) (list_all (reaches_top (length r.links) r.links) r.links) (list_all (reaches_top 9 r.links) r.links) (tests_distinct (map (λ (l : Link). l.id) r.links) v.once) v.parents_present v.no_cycle v.shallow)

-- ---- listings and blocks

same : (a b : Bool) → differ a b ≡ false → a ≡ b
same true true h = refl
same true false h = absurd cc
same false true h = absurd cc
same false false h = refl

no_difference : (a b : Bool) → a ≡ b → differ a b ≡ false
no_difference true true h = refl
no_difference true false h = absurd cc
no_difference false true h = absurd cc
no_difference false false h = refl

unless : {X : Type 0} (b : Bool) (x : X) → cond b (Some x) None ≡ None → b ≡ false
unless true x h = absurd cc
unless false x h = refl

none_by_some : {X : Type 0} (o : Option X) → is_none o ≡ not (is_some o)
none_by_some None = refl
none_by_some (Some x) = refl

some_by_none : {X : Type 0} (o : Option X) → is_some o ≡ not (is_none o)
some_by_none None = refl
some_by_none (Some x) = refl

pub listing_whole : (r : Listing) → listing_fault r ≡ None → is_none r.age ≡ is_none r.recent
listing_whole r h =
    none_by_some r.age ∙ ap not (same (is_some r.age) (is_some r.recent) (unless (differ (is_some r.age) (is_some r.recent)) (codes "age", rule.Pair) h)) ∙ sym (none_by_some r.recent)

pub listing_fine : (r : Listing) → IsValidListing r → listing_fault r ≡ None
listing_fine r v =
    rw (no_difference (is_some r.age) (is_some r.recent) (some_by_none r.age ∙ ap not v.paired ∙ sym (some_by_none r.recent))) refl

three : {X : Type 0} (a b c : Bool) (x y z : X) → cond a (Some x) (cond b (Some y) (cond c (Some z) None)) ≡ None → (a ≡ false) × (b ≡ false) × (c ≡ false)
three false false false x y z h = (refl, refl, refl)
three false false true x y z h = absurd cc
three false true c x y z h = absurd cc
three true b c x y z h = absurd cc

pub block_whole : (r : Block) → block_fault r ≡ None → IsPairedBlock r
block_whole r h =
    let all = three (differ (is_some r.age) (is_clock r.kind)) (differ (is_some r.name) (has_name r.kind)) (differ (is_some r.text) (is_placed_text r.kind)) (codes "age", rule.Pair) (codes "name", rule.Pair) (codes "text", rule.Pair) h in
    record {
      age_paired = same (is_some r.age) (is_clock r.kind) all.0;
      name_paired = same (is_some r.name) (has_name r.kind) all.1;
      text_paired = same (is_some r.text) (is_placed_text r.kind) all.2;
    }

pub block_fine : (r : Block) → IsValidBlock r → block_fault r ≡ None
block_fine r v =
    rw (no_difference (is_some r.age) (is_clock r.kind) v.age_paired, no_difference (is_some r.name) (has_name r.kind) v.name_paired, no_difference (is_some r.text) (is_placed_text r.kind) v.text_paired) refl
