-- What always holds of a hall goes on to hold: once an edit is announced, and once it is settled. And with a desk that stands for its
-- log it makes an engine.
use Rattle.std.proofs.Common.{◌≡◌, ◌∙◌, ◌<◌, ◌++◌, ℕ, Bool, true, List, [], ◌∷◌, Option, Some, None, length, ap, sym, subst, refl, inl, inr}
use Rattle.content_state.specs.State.{State}
use Rattle.content_state.specs.declared.commit.Commit.{Commit}
use Rattle.site_keeper.specs.Keeper.{Kept}
use Rattle.site_keeper.specs.Keeping.{with_pending}
use Rattle.site_house.specs.House.{AreValid}
use Rattle.site_hall.specs.Log.{Log, Made, newest_in}
use Rattle.site_hall.specs.ReadyEdit.{Ready}
use Rattle.site_hall.specs.Accepted.{MayFollow}
use Rattle.site_hall.specs.Stock.{Stock, bins_in, AreSound}
use Rattle.site_hall.specs.Hall.{IsHall}
use Rattle.site_hall.specs.Sides.{HallSide, DeskSide, IsHallSide, Stands, engine_of, announced, settled_side}
use Rattle.site_hall.specs.Within.{told_before, view_of, IsWhole, side_of, IsWholeSide}
use Rattle.site_hall.proofs.Stocks.{bins_more}
use Rattle.site_hall.proofs.Logs.{valid_front}
use Rattle.site_hall.proofs.Batches.{told_back}
use Rattle.site_hall.proofs.Halls.{hall_of, valid_follows, next_place, none_place, some_place}

pub stock_side : {log : Log} {pending : Option Made} {old : Stock} (new : Stock) → IsWholeSide log pending old → AreSound log.base log.edits (bins_in new) → IsWholeSide log pending new
stock_side {log} {pending} {old} new whole entries =
    record { is_hall = record { valid = whole.is_hall.valid; entries = entries }; has_place = whole.has_place }

parts : State → List Commit → Option Commit → Stock → HallSide
parts base log pending stock = record { base = base; log = log; pending = pending; stock = stock }

-- ---- an edit is announced

pub announced_view : (log log' : Log) (made : Made) (c : Commit) (stock : Stock) → log'.base ≡ log.base → log'.edits ≡ log.edits → made.commit ≡ c
    → side_of log' (Some made) stock ≡ announced c (side_of log None stock)
unfolding parts
announced_view log log' made c stock base edits same =
    ap (λ (b : State). parts b log'.edits (Some made.commit) stock) base
    ∙ ap (λ (l : List Commit). parts log.base l (Some made.commit) stock) edits
    ∙ ap (λ (d : Commit). parts log.base log.edits (Some d) stock) same

pub announced_side : {log log' : Log} {pending : Option Made} {stock : Stock} (ready : Ready) (made : Made) → IsWholeSide log pending stock → (side_of log pending stock).pending ≡ None
    → MayFollow (newest_in log) (length log.edits) ready → log'.base ≡ log.base → log'.edits ≡ log.edits → 0 < log'.room → made.commit ≡ ready.batch.commit → made.state ≡ ready.state
    → IsWholeSide log' (Some made) stock
announced_side {log} {log'} {pending} {stock} ready made whole none follows base edits room same state = record {
  is_hall = subst IsHallSide (sym (announced_view log log' made ready.batch.commit stock base edits same)) (record {
    valid = valid_follows log.base log.edits ready (subst (λ (p : Option Commit). AreValid log.base (with_pending log.edits p)) none whole.is_hall.valid) follows;
    entries = whole.is_hall.entries;
  });
  has_place = some_place log' made (next_place log log' ready made follows base edits room same state);
}

-- ---- what was pending is settled

-- it is published
pub published_view : (log log' : Log) (stock : Stock) (made : Made) → log'.base ≡ log.base → log'.edits ≡ log.edits ++ made.commit ∷ []
    → side_of log' None stock ≡ settled_side true (Some made.commit) (side_of log (Some made) stock)
unfolding parts
published_view log log' stock made base edits =
    ap (λ (b : State). parts b log'.edits None stock) base
    ∙ ap (λ (l : List Commit). parts log.base l None stock) edits

pub published_side : (log log' : Log) (stock : Stock) (made : Made) → IsWholeSide log (Some made) stock → log'.base ≡ log.base → log'.edits ≡ log.edits ++ made.commit ∷ []
    → IsWholeSide log' None stock
published_side log log' stock made whole base edits = record {
  is_hall = subst IsHallSide (sym (published_view log log' stock made base edits)) (record {
    valid = whole.is_hall.valid;
    entries = bins_more log.base log.edits (log.edits ++ made.commit ∷ []) (bins_in stock) (made.commit ∷ [], refl) whole.is_hall.entries;
  });
  has_place = none_place log';
}

-- or forgotten
pub forgotten_side : (log : Log) (stock : Stock) (made : Made) → IsWholeSide log (Some made) stock → IsWholeSide log None stock
forgotten_side log stock made whole = record {
  is_hall = record { valid = valid_front log.base log.edits made.commit whole.is_hall.valid; entries = whole.is_hall.entries };
  has_place = none_place log;
}

-- ---- a hall and a desk that stands for its log make an engine

told_stands : (told : Option Kept) (hall : HallSide) (desk : DeskSide) → Stands told hall desk → told_before hall.base desk.kept ≡ told
told_stands told hall desk stands = elim stands.keeps [
  | inl e ↦ told_back hall.base told desk.kept hall.log stands.loaded e
  | inr e ↦ told_back hall.base told desk.kept (with_pending hall.log hall.pending) stands.loaded e
]

module _ (told : Option Kept) (log : Log) (pending : Option Made) (stock : Stock) (kept : Option Kept) (faults : ℕ) (steadfast : Bool) (desk : DeskSide) where
  pub engine_view : Stands told (side_of log pending stock) desk → kept ≡ desk.kept → faults ≡ desk.faults → steadfast ≡ desk.steadfast
      → view_of log pending kept faults steadfast stock ≡ engine_of told (side_of log pending stock) desk
  engine_view stands keeps count tells =
      let commit = (side_of log pending stock).pending in
      ap (λ (k : Option Kept). hall_of log.base log.edits commit (told_before log.base k) k faults steadfast stock) keeps
      ∙ ap (λ (f : ℕ). hall_of log.base log.edits commit (told_before log.base desk.kept) desk.kept f steadfast stock) count
      ∙ ap (λ (b : Bool). hall_of log.base log.edits commit (told_before log.base desk.kept) desk.kept desk.faults b stock) tells
      ∙ ap (λ (o : Option Kept). hall_of log.base log.edits commit o desk.kept desk.faults desk.steadfast stock) (told_stands told (side_of log pending stock) desk stands)

  pub engine_whole : Stands told (side_of log pending stock) desk → kept ≡ desk.kept → faults ≡ desk.faults → steadfast ≡ desk.steadfast
      → IsWholeSide log pending stock → IsWhole log pending kept faults steadfast stock
  engine_whole stands keeps count tells whole = record {
    is_hall = subst IsHall (sym (engine_view stands keeps count tells)) (record {
      valid = whole.is_hall.valid;
      keeps = stands.keeps;
      loaded = stands.loaded;
      entries = whole.is_hall.entries;
    });
    has_place = whole.has_place;
  }
