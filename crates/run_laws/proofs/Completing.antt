use Rattle.std.proofs.Common.{◌≡◌, ◌∙◌, ℕ, List, Some, sym, refl, subst, arith, inl, inr}
use Rattle.site_io.specs.declared.ended.Ended.{Ended}
use Rattle.site_io.specs.declared.ended.Ended.TheVariants as ended
use Rattle.site_io.specs.Told.{Rose}
use Rattle.http_heads.specs.declared.request.Request.{Request}
use Rattle.http_heads.specs.Requests.{End, Empty, Asks, Limit, Code, Cut, Reads}
use Rattle.http_heads.proofs.Laws.{reads_once}
use Rattle.site_house.specs.History.{History}
use Rattle.site_http.specs.Connection.{Around, Answered, Connection, CountsReads, CountsWrites, Texts}
use Rattle.site_http.specs.Work.{around_of}
use Rattle.run_laws.specs.Complete.{AllReplied, IsComplete, StaysCounted, ConnectionsComplete, WorkersComplete, closing_by, ended_by}
use Rattle.run_laws.proofs.Reading.{IsDecided, reads_more, taken_more, taken_all}

-- a count that stayed didn't rise
pub steady : (old new : ℕ) → StaysCounted old new → Rose old new → ⊥
steady old new stays rose =
    let same = stays.same in
    let short = stays.short in
    omega (arith, rose, same, short)

-- the requests that were answered are those of the input
replied : (old new : Around) (history : History) (limit low : ℕ) (bytes : List ℕ) (requests : List Request) (end last : End) → (a : Answered old new history limit low last (closing_by last)) → Reads limit bytes a.requests last → Reads limit bytes requests end → AllReplied (ended_by last) old new history limit low requests end
replied old new history limit low bytes requests end last a answered read =
    let same = reads_once limit bytes a.requests requests last end answered read in
    subst (λ (e : End). AllReplied (ended_by last) old new history limit low requests e) same.same_end
    (record {
      end_is = refl;
      story = a.story;
      texts = subst (λ (rs : List Request). Texts history limit 0 low rs a.story) same.same_requests a.texts;
      gave = a.went.gave;
    })

-- nothing was left of the input
at_its_end : (old new : Around) (history : History) (limit low : ℕ) (bytes : List ℕ) (last : End) → (a : Answered old new history limit low last (closing_by last)) → bytes ≡ a.taken → Reads limit bytes a.requests last
at_its_end old new history limit low bytes last a same = subst (λ (l : List ℕ). Reads limit l a.requests last) (sym same) a.reads

-- something may be left of it
before_its_end : (old new : Around) (history : History) (limit low : ℕ) (bytes : List ℕ) (last : End) → IsDecided last → (a : Answered old new history limit low last (closing_by last)) → old.left ≡ Some bytes → Reads limit bytes a.requests last
before_its_end old new history limit low bytes last decided a told =
    let more = taken_more bytes a.taken new.left (sym told ∙ a.went.source) in
    subst (λ (l : List ℕ). Reads limit l a.requests last) (sym more.1) (reads_more limit a.taken more.0 a.requests last decided a.reads)

-- a connection that ended with no fault
pub ended_well : (e : Ended) (old new : Around) (history : History) (limit low : ℕ) → Connection e old new history limit low → (e ≡ ended.ReadFault → ⊥) → (e ≡ ended.WriteFault → ⊥) → IsComplete e old new history limit low
ended_well ended.Closed old new history limit low c read written bytes requests end told reads =
    inl (replied old new history limit low bytes requests end Empty c.0 (at_its_end old new history limit low bytes Empty c.0 (taken_all bytes c.0.taken new.left (sym told ∙ c.0.went.source) c.1)) reads)
ended_well (ended.Truncated n) old new history limit low c read written bytes requests end told reads =
    inl (replied old new history limit low bytes requests end (Cut n) c.0 (at_its_end old new history limit low bytes (Cut n) c.0 (taken_all bytes c.0.taken new.left (sym told ∙ c.0.went.source) c.1)) reads)
ended_well ended.Asked old new history limit low c read written bytes requests end told reads =
    inl (replied old new history limit low bytes requests end Asks c (before_its_end old new history limit low bytes Asks tt c told) reads)
ended_well ended.Spent old new history limit low c read written bytes requests end told reads =
    inl (replied old new history limit low bytes requests end Limit c (before_its_end old new history limit low bytes Limit tt c told) reads)
ended_well (ended.Refused code) old new history limit low c read written bytes requests end told reads =
    inl (replied old new history limit low bytes requests end (Code code) c (before_its_end old new history limit low bytes (Code code) tt c told) reads)
ended_well ended.ReadFault old new history limit low c read written bytes requests end told reads = absurd (read refl)
ended_well ended.WriteFault old new history limit low c read written bytes requests end told reads = absurd (written refl)
ended_well ended.OutOfMemory old new history limit low c read written bytes requests end told reads = inr refl

pub complete : ConnectionsComplete
complete e old new history limit low reading reading' writing writing' c reads writes steady-reads steady-writes =
    ended_well e old new history limit low c
    (λ is. steady reading reading' steady-reads (subst (λ (x : Ended). CountsReads x reading reading') is reads))
    (λ is. steady writing writing' steady-writes (subst (λ (x : Ended). CountsWrites x writing writing') is writes))

pub workers : WorkersComplete
workers old new one steady-reads steady-writes =
    complete one.back.end (around_of old one.line) (around_of new one.back.line) new.history 1000 _ one.line.reading one.back.line.reading one.line.writing one.back.line.writing one.connection one.reads one.writes steady-reads steady-writes
