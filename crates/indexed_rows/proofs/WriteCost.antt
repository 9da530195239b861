-- What writes cost: how many rows are put into buckets.
use Rattle.std.proofs.Common.{ℕ, zero, suc, List, [], ◌∷◌, ◌≡◌, ◌≤◌, ◌<◌, ◌+◌, ◌*◌, length, get_or, take, fold, refl, sym, ◌∙◌, ap, subst, arith, Some, None}
use Rattle.std.proofs.lemmas.List.{length-map}
use Rattle.bucket_map.specs.Buckets.{bucket_size, AtMost}
use Rattle.bucket_map.proofs.Sizes.{size_put, size_cut, steps_more}
use Rattle.std.specs.BTreeMap.{is_at}
use Rattle.content_rows.specs.declared.cell.Cell.{Cell}
use Rattle.content_rows.specs.declared.row.Row.{Row}
use Rattle.content_rows.specs.CellOrder.{cell_cmp}
use Rattle.cell_keys.specs.Places.{cell_place}
use Rattle.indexed_rows.specs.declared.write.Write.{Write}
use Rattle.indexed_rows.specs.Write.{written}
use Rattle.indexed_rows.specs.Cells.{cells_of}

-- ---- one more of a list

fold_next : {A B : Type 0} (f : B → A → B) (a : B) (xs : List A) (i : ℕ) (d : A) → i < length xs → fold f a (take (suc i) xs) ≡ f (fold f a (take i xs)) (get_or xs i d)
fold_next f a [] i d l = absurd (omega arith)
fold_next f a (x ∷ xs) zero d l = refl
fold_next f a (x ∷ xs) (suc i) d l = fold_next f (f a x) xs i d (omega arith)

pub fold_more : {A B : Type 0} (f : B → A → B) (a b c : B) (xs : List A) (i : ℕ) (x : A) → i < length xs → x ≡ get_or xs i x → b ≡ fold f a (take i xs) → c ≡ f b x → c ≡ fold f a (take (i + 1) xs)
fold_more f a b c xs i x l is so_far made =
    let next : suc i ≡ i + 1 = omega arith in
    made ∙ ap (λ z. f z x) so_far ∙ ap (λ y. f (fold f a (take i xs)) y) is ∙ sym (fold_next f a xs i x l) ∙ ap (λ n. fold f a (take n xs)) next

-- ---- writes

pub size_written : (rows : List (Cell × Row)) (write : Write) (n : ℕ) → bucket_size cell_place (written rows write) n ≤ bucket_size cell_place rows n + 1
size_written rows write n = elim write.row as (λ r. bucket_size cell_place (written rows (record write { row = r })) n ≤ bucket_size cell_place rows n + 1) [
  | None ↦ let cut = size_cut cell_cmp cell_place rows (is_at (cell_cmp write.cell)) n in omega arith
  | Some row ↦ size_put cell_cmp cell_place rows write.cell row n
]

cell_at : (writes : List Write) (i : ℕ) (d : Write) → get_or (cells_of writes) i d.cell ≡ (get_or writes i d).cell
cell_at [] i d = refl
cell_at (w ∷ writes) zero d = refl
cell_at (w ∷ writes) (suc i) d = cell_at writes i d

pub write_steps : (old : List (Cell × Row)) (most : ℕ) (writes : List Write) (i : ℕ) (w : Write) (before now new size : ℕ)
    → AtMost cell_place old most (cells_of writes) → i < length writes → w ≡ get_or writes i w
    → now ≤ before + (most + length writes) * i → new ≤ now + (size + 1) → size ≤ bucket_size cell_place old (cell_place w.cell) + i
    → new ≤ before + (most + length writes) * (i + 1)
write_steps old most writes i w before now new size h l is cost step sizes =
    let many : length (cells_of writes) ≡ length writes = length-map writes (λ x. x.cell) in
    let own : w.cell ≡ get_or (cells_of writes) i w.cell = ap (λ x. x.cell) is ∙ sym (cell_at writes i w) in
    let within : i < length (cells_of writes) = omega arith in
    subst (λ n. new ≤ before + (most + n) * (i + 1)) many
    (steps_more cell_place old most (cells_of writes) i w.cell w.cell before now new size h within own
    (subst (λ n. now ≤ before + (most + n) * i) (sym many) cost) step sizes)
