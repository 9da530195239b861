-- What a step of a socket gives is a request.
use Rattle.std.proofs.Common.{◌≡◌, ℕ, List, ◌++◌, inl, inr, sym, subst}
use Rattle.request_framing.specs.declared.framing.Extent.{Extent}
use Rattle.request_framing.specs.declared.framing.Extent.TheVariants.{Refused}
use Rattle.request_framing.specs.Gives.{IsRequest}
use Rattle.door_sockets.specs.Steps.{GivesOf, RefusesOf}

pub whole_asks : (reaches : List ℕ → Extent → Type 0) (old given new : List ℕ) → GivesOf reaches old given new → IsRequest reaches given
whole_asks reaches old given new it =
    ∣ inl (record { bytes = old ++ it.piece; size = it.gives.size; told = it.gives.told; within = it.gives.within; front = it.gives.front }) ∣₁

pub refused_asks : (reaches : List ℕ → Extent → Type 0) (old given new : List ℕ) → RefusesOf reaches old given new → IsRequest reaches given
refused_asks reaches old given new it = ∣ inr (subst (λ bytes. reaches bytes Refused) (sym it.gives.all) it.gives.told) ∣₁
