-- From what the keeper tells that was given back to what its database stands for.
use Rattle.std.proofs.Common.{◌≡◌, ◌∙◌, ◌⊎◌, inl, inr, ℕ, List, Option, Some, None, Bool, true, false, refl, ap, subst}
use Rattle.std.specs.Prelude.{if◌then◌else◌, IfSome}
use Rattle.std.proofs.lemmas.Slice.Eq.{bytes_eq-Decides}
use Rattle.content_state.specs.State.{State}
use Rattle.site_cli.specs.Outside.{Outside}
use Rattle.site_cli.specs.Words.{Asked, replay as replays, serves, imports, exports, checks, lists, drills}
use Rattle.site_hall.specs.Hall.{HallView}
use Rattle.site_keeper.specs.Keeper.{held_of}
use Rattle.site_keeper.specs.Memory.{made_of}
use Rattle.site_keeper.specs.declared.stored.Stored.{Stored}
use Rattle.site_places.specs.Place.{absent, there}
use Rattle.site_jobs.specs.Jobs.{checked, exported}
use Rattle.site_jobs.specs.declared.job.JobEnd.{JobEnd}
use Rattle.site_jobs.specs.declared.job.JobEnd.TheVariants as job_end
use Rattle.site_targets.specs.Targets.{targets_text}
use Rattle.serve_store.specs.Job.{ToServe}
use Rattle.serve_store.specs.declared.ending.ServeEnd.{ServeEnd}
use Rattle.serve_store.specs.declared.ending.ServeEnd.TheVariants as serve_end
use Rattle.sqlite.specs.Held.{Held, state}
use Rattle.sqlite.specs.Store.{Ghosts}
use Rattle.table_places.specs.Tabled.{kept_of, store_of, ReturnedHolds, Tabled}
use Rattle.table_places.specs.Telling.{HoldsIfClean, Telling}
use Rattle.table_runs.specs.Leaves.{ImportEnds, ImportLeaves, ImportsFront, ImportsWhole, IsUnopened, LeavesEdits, LeavesImport, MayLeave, ServeEnds, ServeLeaves, ServesFrom, StoreTells, TextEnds, Told}
use Rattle.table_runs.specs.Tables.{Left}

-- ---- whatever follows of what is told

module _ (D E : Stored → Type 0) (lift : (held : Stored) → D held → E held) where
  leaves_import : (listed : Stored) (left : Option (List ℕ)) (rows changed : ℕ) → LeavesImport D listed left rows changed → LeavesImport E listed left rows changed
  leaves_import listed left rows changed l = record { holds = l.holds; is_imported = l.is_imported; leaves = lift l.holds l.leaves }

  may_leave : (listed : Stored) (left : Option (List ℕ)) → MayLeave D listed left → MayLeave E listed left
  may_leave listed left (inl stays) = inl (lift listed stays)
  may_leave listed left (inr made) = inr (made.0, made.1, leaves_import listed left made.0 made.1 made.2)

  imports_whole : (listed : Stored) (old new : Outside) → ImportsWhole D listed old new → ImportsWhole E listed old new
  imports_whole listed old new i = record { rows = i.rows; changed = i.changed; leaves = leaves_import listed old.left i.rows i.changed i.leaves; printed = i.printed }

  imports_front : (listed : Stored) (old new : Outside) → ImportsFront D listed old new → ImportsFront E listed old new
  imports_front listed old new i = record { rows = i.rows; changed = i.changed; leaves = leaves_import listed old.left i.rows i.changed i.leaves; printed = i.printed }

  import_leaves : (listed : Stored) (e : JobEnd) (old new : Outside) → ImportLeaves D listed e old new → ImportLeaves E listed e old new
  import_leaves listed job_end.Done old new leaves = imports_whole listed old new leaves
  import_leaves listed job_end.Refused old new leaves = lift listed leaves
  import_leaves listed job_end.KeeperFailed old new leaves = may_leave listed old.left leaves
  import_leaves listed job_end.InputFailed old new leaves = lift listed leaves
  import_leaves listed job_end.OutputFailed old new leaves = imports_front listed old new leaves
  import_leaves listed job_end.OutOfMemory old new leaves = may_leave listed old.left leaves

  import_ends : (listed : Stored) (old new : Outside) (status : ℕ) → ImportEnds D listed old new status ⊎ IsUnopened old new status → ImportEnds E listed old new status ⊎ IsUnopened old new status
  import_ends listed old new status (inl ends) = inl (record { ended = ends.ended; status_is = ends.status_is; leaves = import_leaves listed ends.ended old new ends.leaves })
  import_ends listed old new status (inr unopened) = inr unopened

  text_ends : (text : State → List ℕ) (listed : Stored) (old new : Outside) (status : ℕ) → TextEnds D text listed old new status ⊎ IsUnopened old new status → TextEnds E text listed old new status ⊎ IsUnopened old new status
  text_ends text listed old new status (inl ends) = inl (record { ended = ends.ended; status_is = ends.status_is; prints = ends.prints; leaves = lift listed ends.leaves })
  text_ends text listed old new status (inr unopened) = inr unopened

  leaves_edits : (hall : HallView) → LeavesEdits D hall → LeavesEdits E hall
  leaves_edits hall (inl all) = inl (lift _ all)
  leaves_edits hall (inr more) = inr (more.0, more.1, lift _ more.2)

  serves_from : (listed : Stored) (what : ToServe) (whole : Bool) (old new : Outside) → ServesFrom D listed what whole old new → ServesFrom E listed what whole old new
  serves_from listed what whole old new s = record {
    hall = s.hall;
    hall_is = s.hall_is;
    held = s.held;
    stations = s.stations;
    given = s.given;
    stations_are = s.stations_are;
    hall-then = s.hall-then;
    is_ready = s.is_ready;
    served = s.served;
    base_is = s.base_is;
    leaves = leaves_edits s.served.hall-after s.leaves;
  }

  serves_or_not : (listed : Stored) (what : ToServe) (whole : Bool) (old new : Outside) → D listed ⊎ ServesFrom D listed what whole old new → E listed ⊎ ServesFrom E listed what whole old new
  serves_or_not listed what whole old new (inl stays) = inl (lift listed stays)
  serves_or_not listed what whole old new (inr from) = inr (serves_from listed what whole old new from)

  serve_leaves : (listed : Stored) (what : ToServe) (e : ServeEnd) (old new : Outside) → ServeLeaves D listed what e old new → ServeLeaves E listed what e old new
  serve_leaves listed what serve_end.Served old new leaves = serves_from listed what true old new leaves
  serve_leaves listed what serve_end.Refused old new leaves = lift listed leaves
  serve_leaves listed what serve_end.KeeperFailed old new leaves = lift listed leaves
  serve_leaves listed what serve_end.OutputFailed old new leaves = serves_or_not listed what true old new leaves
  serve_leaves listed what serve_end.PlaceFailed old new leaves = serves_or_not listed what false old new leaves
  serve_leaves listed what serve_end.OutOfMemory old new leaves = lift listed leaves

  serve_ends : (listed : Stored) (what : ToServe) (old new : Outside) (status : ℕ) → ServeEnds D listed what old new status ⊎ IsUnopened old new status → ServeEnds E listed what old new status ⊎ IsUnopened old new status
  serve_ends listed what old new status (inl ends) = inl (record { ended = ends.ended; status_is = ends.status_is; leaves = serve_leaves listed what ends.ended old new ends.leaves })
  serve_ends listed what old new status (inr unopened) = inr unopened

  pub store_tells : (asked : Option Asked) (path : List ℕ) (listed : Stored) (old new : Outside) (status : ℕ) → StoreTells D asked path listed old new status → StoreTells E asked path listed old new status
  store_tells None path listed old new status tells = tt
  store_tells (Some (replays file)) path listed old new status tells = tt
  store_tells (Some (serves what)) path listed old new status tells = λ same. serve_ends listed what old new status (tells same)
  store_tells (Some (imports store)) path listed old new status tells = λ same. import_ends listed old new status (tells same)
  store_tells (Some (exports store)) path listed old new status tells = λ same. text_ends exported listed old new status (tells same)
  store_tells (Some (checks store)) path listed old new status tells = λ same. text_ends checked listed old new status (tells same)
  store_tells (Some (lists store)) path listed old new status tells = λ same. text_ends targets_text listed old new status (tells same)
  store_tells (Some (drills number)) path listed old new status tells = tt

-- ---- what the database stands for

inner : {A : Type 0} {x y : A} → Some x ≡ Some y → x ≡ y
inner same = cc

never : {A : Type 0} {x : A} → None ≡ Some x → ⊥
never is = cc

holds_by : {S : Type 0} (g : Ghosts S) (returned : Option (Telling (Held S))) → IfSome returned (λ k. HoldsIfClean (state g k.conn) (held_of k.kept)) → (held : Stored) → Told (kept_of returned) held
    → (k : Telling (Held S)) × (returned ≡ Some k) × HoldsIfClean (state g k.conn) held
holds_by g None holds held told = absurd (never told.is)
holds_by g (Some k) holds held told =
    (k, refl, subst (HoldsIfClean (state g k.conn)) (ap held_of (inner told.is) ∙ told.holds) holds)

pub left_by : {P S : Type 0} (g : Ghosts S) (t : Tabled P (Held S)) → ReturnedHolds g t → (held : Stored) → Told (kept_of t.returned) held → Left g t held
left_by g t holds held told = holds_by g t.returned holds held told

-- ---- what the place told

pub store_at : (path : List ℕ) (listed : Stored) → store_of path listed path ≡ there (made_of listed)
store_at path listed = ap (λ (b : Bool). if b then there (made_of listed) else absent) ((bytes_eq-Decides path path).1 refl)
