-- What is held after batches, by the last one.
use Rattle.std.proofs.Common.{◌≡◌, ◌∙◌, ◌-◌, ◌<◌, suc, List, [], ◌∷◌, Some, None, length, ap, sym, refl, arith}
use Rattle.std.specs.List.{fold, slice_get}
use Rattle.std.proofs.lemmas.Option.{slice_get-get_or}
use Rattle.site_keeper.specs.declared.stored.Stored.{Stored}
use Rattle.site_keeper.specs.Batch.{Batch}
use Rattle.site_keeper.specs.Keeper.{with_batch}

-- the head is that of the last batch
pub newest_is : (stored : Stored) (batches : List Batch) (batch : Batch) → slice_get batches (length batches - 1) ≡ Some batch
    → (fold with_batch stored batches).head ≡ batch.head
unfolding with_batch
newest_is stored [] batch last = cc
newest_is stored (b ∷ []) batch last = (let same : b ≡ batch = cc in ap (λ (one : Batch). one.head) same)
newest_is stored (b ∷ c ∷ batches) batch last =
    let here : suc (suc (length batches)) - 1 ≡ suc (length batches) = omega arith in
    let there : suc (length batches) - 1 ≡ length batches = omega arith in
    newest_is (with_batch stored b) (c ∷ batches) batch
    (ap (λ i. slice_get (c ∷ batches) i) there ∙ sym (ap (λ i. slice_get (b ∷ c ∷ batches) i) here) ∙ last)

-- the head is what it was, where there is no batch
pub newest_is_first : (stored : Stored) (batches : List Batch) → slice_get batches (length batches - 1) ≡ None
    → (fold with_batch stored batches).head ≡ stored.head
newest_is_first stored [] none = refl
newest_is_first stored (b ∷ batches) none =
    let within : suc (length batches) - 1 < suc (length batches) = omega arith in
    let found = slice_get-get_or (b ∷ batches) (suc (length batches) - 1) b within in
    cc
