use Rattle.std.proofs.Common.{◌≡◌, ◌++◌, ◌<◌, ◌+◌, List, [], ◌∷◌, ℕ, Some, None, length, ap, sym, refl, subst, arith, inl, inr}
use Rattle.site_io.specs.declared.ended.Ended.{Ended}
use Rattle.site_io.specs.declared.ended.Ended.TheVariants as ended
use Rattle.http_heads.specs.Requests.{End, Empty, Cut, ending}
use Rattle.site_house.specs.House.{HouseView, Moves, history_of}
use Rattle.site_house.specs.History.{History, newest}
use Rattle.site_http.specs.Connection.{Around, Answered, Connection}
use Rattle.site_http.specs.Turn.{Turned}
use Rattle.site_http.proofs.Progress.{Progress, carried, goes_on, ends_at, interrupted_at, refused_at, asked_at, starved_at, half_answered_at, half_refused_at, late_answered_at}

ending_empty : (xs : List ℕ) → 0 ≡ length xs → ending xs ≡ Empty
ending_empty [] h = refl
ending_empty (x ∷ xs) h = absurd (omega arith)

ending_cut : (xs : List ℕ) (n : ℕ) → n ≡ length xs → (n ≡ 0 → ⊥) → ending xs ≡ Cut n
ending_cut [] n h some = absurd (some h)
ending_cut (x ∷ xs) n h some = ap Cut (sym h)

-- a turn that ends the connection
ended_at : (new : Around) (buffer' : List ℕ) {old now : Around} {history : History} {limit low count seen : ℕ} {buffer : List ℕ} (e : Ended) → count < limit → Progress old now history limit low count seen buffer → Turned (Some e) now new history limit count seen buffer buffer' → Connection e old new history limit low
ended_at new buffer' {old} {now} {history} {limit} {low} {count} {seen} {buffer} ended.Closed few p t =
    (subst (λ (d : End). Answered old new history limit low d []) (ending_empty (buffer ++ t.more) t.size_is) (ends_at few p t), t.nothing)
ended_at new buffer' {old} {now} {history} {limit} {low} {count} {seen} {buffer} (ended.Truncated n) few p t =
    (subst (λ (d : End). Answered old new history limit low d []) (ending_cut (buffer ++ t.0.more) n t.0.size_is t.1) (ends_at few p t.0), t.0.nothing)
ended_at new buffer' ended.Asked few p t = asked_at few p t
ended_at new buffer' ended.Spent few p t = absurd t
ended_at new buffer' (ended.Refused code) few p t = refused_at code few p t
ended_at new buffer' ended.ReadFault few p t = interrupted_at few p t
ended_at new buffer' ended.OutOfMemory few p t = elim t [ inl a ↦ inl (starved_at p a) | inr l ↦ inr (late_answered_at p l) ]
ended_at new buffer' ended.WriteFault few p t = elim t [
  | inl a ↦ inl (half_answered_at p a)
  | inr other ↦ elim other [
    | inl r ↦ inl (half_refused_at p r)
    | inr l ↦ inr (late_answered_at p l)
  ]
]

-- the same over a house that moved meanwhile
pub ended_in : {old now : Around} (new : Around) {house house' : HouseView} {limit low count : ℕ} {buffer : List ℕ} (buffer' : List ℕ) (e : Ended) → count < limit → Moves house house' → Progress old now (history_of house) limit low count (newest (history_of house)) buffer → Turned (Some e) now new (history_of house') limit count (newest (history_of house)) buffer buffer' → Connection e old new (history_of house') limit low
ended_in new buffer' e few m p t = ended_at new buffer' e few (carried m p) t

pub goes_in : {old now new : Around} {house house' : HouseView} {limit low count : ℕ} {buffer : List ℕ} (buffer' : List ℕ) → count < limit → Moves house house' → Progress old now (history_of house) limit low count (newest (history_of house)) buffer → Turned None now new (history_of house') limit count (newest (history_of house)) buffer buffer' → Progress old new (history_of house') limit low (count + 1) (newest (history_of house')) buffer'
goes_in buffer' few m p t = goes_on few (carried m p) t
