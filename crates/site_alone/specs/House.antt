-- The house of a caller that is alone with a site, whose keeper never fails.
use Rattle.std.specs.Prelude.{[], true, Some}
use Rattle.content_state.specs.State.{State}
use Rattle.site_house.specs.House.{HouseView}
use Rattle.site_hall.specs.Stock.{empty_bins}

-- a house over a site that was just opened: nothing was edited yet, and nothing is kept of its pages
abbrev pub opened_on : State → HouseView
opened_on state = record {
  base = state;
  seen = [];
  number = 0;
  opened = 0;
  name = [];
  faults = 0;
  steadfast = true;
  handed = [];
  keepers = 0;
  bins = Some (empty_bins 4096 1024 1024);
  unkept = 0;
}
