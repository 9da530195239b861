-- Which libraries were attached.
use Rattle.std.specs.Prelude.{ℕ, List, [], Bool, true, false, ◌||◌, if◌then◌else◌}
use Rattle.content_state.specs.declared.element.Library.{Library}
use Rattle.content_state.specs.declared.element.Library.TheVariants as library
use Rattle.render_array.specs.Shown.{meta_line, same_library}
use Rattle.renderer.specs.declared.assembling.Noted.{Noted}

abbrev pub is_noted : Noted → Library → Bool
is_noted noted library.Clock = noted.clock
is_noted noted library.Comment = noted.comment
is_noted noted library.Login = noted.login
is_noted noted library.Menu = noted.menu
is_noted noted library.Node = noted.node
is_noted noted library.Pager = noted.pager

abbrev pub none_noted : Noted
none_noted = record { clock = false; comment = false; login = false; menu = false; node = false; pager = false }

-- one more
abbrev pub with_noted : Noted → Library → Noted
with_noted noted l = record {
  clock = same_library library.Clock l || noted.clock;
  comment = same_library library.Comment l || noted.comment;
  login = same_library library.Login l || noted.login;
  menu = same_library library.Menu l || noted.menu;
  node = same_library library.Node l || noted.node;
  pager = same_library library.Pager l || noted.pager;
}

-- the line of a library that is noted
abbrev pub noted_line : Noted → Library → List ℕ
noted_line noted l = if is_noted noted l then meta_line l else []
