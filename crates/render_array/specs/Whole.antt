-- Whole elements: what stands in the places of an element, the places of that filled in as well.
use Rattle.std.specs.Prelude.{ℕ, zero, suc, List, ◌+◌, ◌==◌, Option, Some, None, option_map, sum_by, if◌then◌else◌}
use Rattle.content_state.specs.declared.element.Hole.{Hole}
use Rattle.content_state.specs.declared.element.Hole.TheVariants as hole
use Rattle.content_state.specs.declared.element.Fragment.{Fragment}
use Rattle.content_state.specs.declared.element.Fragment.TheVariants as fragment
use Rattle.content_state.specs.declared.element.Mode.{Mode}
use Rattle.content_state.specs.declared.element.Mode.TheVariants as mode
use Rattle.content_state.specs.declared.element.Depth.{Depth}
use Rattle.content_state.specs.declared.element.Depth.TheVariants as depth
use Rattle.content_state.specs.Context.{Visit}
use Rattle.content_state.specs.Plan.{Plan, Done, ◌>>◌}
use Rattle.content_state.specs.Met.{met}
use Rattle.content_state.specs.Places.{Filling, filled_in}
use Rattle.render_array.specs.declared.element.Element.{Element}
use Rattle.render_array.specs.declared.element.Element.TheVariants as element
use Rattle.render_array.specs.Built.{fragment_shown, plan_of}

-- The plan of what stands in a place, its own places left open. The libraries are listed when all else stands.
abbrev pub plan_at : Filling
plan_at hole.Meta = None
plan_at (hole.Fragment f) = Some (fragment_shown f >> Done None)

-- Elements stand in one another by levels: those in the places of an element are of a lower level. Nodes stand in nodes
-- that refer to them, three deep; teasers stand in listings, listings and menus in blocks, and these on a page.
abbrev pub depth_level : Depth → ℕ
depth_level depth.One = 3
depth_level depth.Two = 2
depth_level depth.Three = 1

abbrev pub mode_level : Mode → ℕ
mode_level mode.Full = 4
mode_level mode.Teaser = 1
mode_level (mode.Embed deep) = depth_level deep

abbrev pub fragment_level : Fragment → ℕ
fragment_level (fragment.Block name) = 3
fragment_level (fragment.Menu name) = 1
fragment_level (fragment.Listing name where_placed) = 2
fragment_level (fragment.TermListing t) = 2
fragment_level (fragment.Node n mode) = mode_level mode

abbrev pub level : Hole → ℕ
level hole.Meta = 0
level (hole.Fragment f) = fragment_level f

abbrev pub element_level : Element → ℕ
element_level element.Page = 5
element_level (element.Fragment f) = fragment_level f

-- what stands in a place of an element of a level: where that of the place is lower, its plan with its own places filled
-- in
abbrev pub shown_below : ℕ → Filling
shown_below zero h = None
shown_below (suc k) h = if level h == k then option_map (filled_in (shown_below k)) (plan_at h) else shown_below k h

-- what an element shows where this path is asked for, its places filled in
abbrev pub whole : List ℕ → Element → Plan (Option ℕ)
whole path e = filled_in (shown_below (element_level e)) (plan_of path e)

-- how many elements a plan has, with itself, where this counts those in a place
abbrev pub count_with : (Hole → ℕ) → Visit → Plan (Option ℕ) → ℕ
count_with count v p = 1 + sum_by count (met p v).places

abbrev pub count_at : (Hole → ℕ) → Visit → Option (Plan (Option ℕ)) → ℕ
count_at count v None = 0
count_at count v (Some p) = count_with count v p

-- how many elements stand in a place of an element of a level, on a visit: the place's own, and those in its places
abbrev pub count_below : ℕ → Visit → Hole → ℕ
count_below zero v h = 0
count_below (suc k) v h = if level h == k then count_at (count_below k v) v (plan_at h) else count_below k v h

-- how many elements there are in all: the element itself and each that stands in a place, at any depth
abbrev pub element_count : List ℕ → Visit → Element → ℕ
element_count path v e = count_with (count_below (element_level e) v) v (plan_of path e)
