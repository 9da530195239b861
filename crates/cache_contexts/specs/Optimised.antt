-- How contexts are left out, one after the other.
use Rattle.std.specs.Prelude.{List, [], Bool, fold, if◌then◌else◌, None}
use Rattle.std.specs.List.{list_any}
use Rattle.std.specs.BTreeSet.{insert_key}
use Rattle.std.specs.Str.{bytes_eq}
use Rattle.cacheability.specs.declared.cacheability.Cacheability.{Cacheability}
use Rattle.cacheability.specs.declared.context.Context.{Context}
use Rattle.cacheability.specs.declared.tag.Tag.{Tag}
use Rattle.cacheability.specs.Cacheability.{always_same}
use Rattle.cacheability.specs.Context.{context_cmp, context_text}
use Rattle.cacheability.specs.InOrder.{union}
use Rattle.cacheability.specs.Tag.{tag_cmp}
use Rattle.content_state.specs.State.{State}
use Rattle.content_state.specs.declared.ask.Ask.{Ask}
use Rattle.content_state.specs.declared.ask.Viewer.{Viewer}
use Rattle.content_state.specs.Context.{Visit, above, dropped_tags}
use Rattle.cache_contexts.specs.Values.{visit_on}

abbrev pub has : List Context → Context → Bool
has all c = list_any (λ own. bytes_eq (context_text own) (context_text c)) all

-- one of those that it stands below is among all
abbrev pub is_redundant : List Context → Context → Bool
is_redundant all c = list_any (has all) (above c)

-- a visit of a viewer on which nothing is asked for: what stands in for a context does not hang on it
abbrev pub asks_nothing : Ask
asks_nothing = record { target = []; path = []; query = []; cookie = None }

abbrev pub visit_by : State → Viewer → Visit
visit_by state viewer = visit_on state viewer asks_nothing 0

-- a context is taken in: kept, or by the tags that stand in for it
abbrev pub with_tags : Cacheability → List Tag → Cacheability
with_tags said tags = record said { tags = union tag_cmp said.tags tags }

abbrev pub with_context : Cacheability → Context → Cacheability
with_context said c = record said { contexts = insert_key context_cmp said.contexts c }

abbrev pub taken_in : Visit → List Context → Cacheability → Context → Cacheability
taken_in v all said c = if is_redundant all c then with_tags said (dropped_tags v c) else with_context said c

abbrev pub optimised : Visit → List Context → Cacheability
optimised v all = fold (taken_in v all) always_same all
