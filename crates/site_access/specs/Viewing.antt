-- Which of some nodes a viewer may view, and what deciding about all of them depends on.
use Rattle.std.specs.Prelude.{ℕ, List, Bool, true, false, ◌≡◌}
use Rattle.std.specs.List.{filter, flat_map}
use Rattle.cacheability.specs.InOrder.{HasBoth}
use Rattle.cacheability.specs.declared.tag.Tag.{Tag}
use Rattle.cacheability.specs.declared.context.Context.{Context}
use Rattle.cacheability.specs.declared.cacheability.Cacheability.{Cacheability}
use Rattle.cacheability.specs.declared.op.Op.TheVariants as op
use Rattle.content_rows.specs.declared.cell.Cell.{Cell}
use Rattle.content_rows.specs.declared.row.Row.{Row}
use Rattle.content_state.specs.declared.ask.Viewer.{Viewer}
use Rattle.site_access.specs.Access.{Access, Allowed, Denied, access_to_node}
use Rattle.site_access.specs.Depends.{node_depends}

-- whether a decision gives access
abbrev pub is_allowed : Access → Bool
is_allowed Allowed = true
is_allowed (Denied reason) = false

-- those of the nodes that the viewer may view
abbrev pub viewable_of : List (Cell × Row) → Viewer → List ℕ → List ℕ
viewable_of rows viewer ids = filter (λ n. is_allowed (access_to_node rows viewer op.View n)) ids

-- the tags and the contexts that decisions about viewing each of the nodes depend on
abbrev pub tags_of_nodes : List (Cell × Row) → Viewer → List ℕ → List Tag
tags_of_nodes rows viewer ids = flat_map (λ n. (node_depends rows viewer op.View n).tags) ids

abbrev pub contexts_of_nodes : List (Cell × Row) → Viewer → List ℕ → List Context
contexts_of_nodes rows viewer ids = flat_map (λ n. (node_depends rows viewer op.View n).contexts) ids

-- what is noted is what was, and what decisions about viewing each of the nodes depend on, no more and no less
pub record NotesNodes (rows : List (Cell × Row)) (viewer : Viewer) (ids : List ℕ) (old new : Cacheability) : Type 0 where
  pub tags : HasBoth old.tags (tags_of_nodes rows viewer ids) new.tags
  pub contexts : HasBoth old.contexts (contexts_of_nodes rows viewer ids) new.contexts
  pub age : new.max_age ≡ old.max_age
