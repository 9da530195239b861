-- How many entries stand in a bucket after a change, and what a list of changes costs.
use Rattle.std.proofs.Common.{ℕ, zero, suc, List, [], ◌∷◌, ◌≡◌, ◌≤◌, ◌<◌, ◌+◌, ◌*◌, length, get_or, sym, subst, arith, Bool, true, false, cond}
use Rattle.std.specs.Prelude.{◌==◌, max}
use Rattle.std.specs.List.{filter}
use Rattle.std.specs.Ordering.{match_ordering}
use Rattle.std.specs.Map.{remove_entry}
use Rattle.std.specs.BTreeMap.{insert_entry}
use Rattle.std.specs.declared.cmp.Ordering.{Ordering}
use Rattle.std.specs.declared.cmp.Ordering.TheVariants.{Less, Equal, Greater}
use Rattle.std.proofs.lemmas.Nat.{mul-le}
use Rattle.bucket_map.specs.Buckets.{bucket_size, AtMost, fullest}

-- ---- one change

at_most_one : (b : Bool) → cond b 1 0 ≤ 1
at_most_one true = omega arith
at_most_one false = omega arith

length_if : {A : Type 0} (b : Bool) (x : A) (xs : List A) → length (cond b (x ∷ xs) xs) ≡ cond b 1 0 + length xs
length_if true x xs = omega arith
length_if false x xs = omega arith

module _ {K V : Type 0} (R : K → K → Ordering) (place : K → ℕ) where
  -- the first entry, and the others
  size_cons : (e : K × V) (es : List (K × V)) (n : ℕ) → bucket_size place (e ∷ es) n ≡ cond (place e.0 == n) 1 0 + bucket_size place es n
  size_cons e es n = length_if (place e.0 == n) e (filter (λ x. place x.0 == n) es)

  pub size_put : (es : List (K × V)) (k : K) (v : V) (n : ℕ) → bucket_size place (insert_entry R es k v) n ≤ bucket_size place es n + 1
  size_put [] k v n =
      let one = size_cons (k, v) [] n in
      let small = at_most_one (place k == n) in
      omega arith
  size_put (e ∷ es) k v n = go (R k e.0) (size_put es k v n)
    where
      go : (o : Ordering) → bucket_size place (insert_entry R es k v) n ≤ bucket_size place es n + 1
          → bucket_size place (match_ordering o ((k, v) ∷ e ∷ es) ((e.0, v) ∷ es) (e ∷ insert_entry R es k v)) n ≤ bucket_size place (e ∷ es) n + 1
      go Less rest = let one = size_cons (k, v) (e ∷ es) n in let small = at_most_one (place k == n) in omega arith
      go Equal rest = let one = size_cons (e.0, v) es n in let other = size_cons e es n in omega arith
      go Greater rest = let one = size_cons e (insert_entry R es k v) n in let other = size_cons e es n in omega arith

  pub size_cut : (es : List (K × V)) (test : K → Bool) (n : ℕ) → bucket_size place (remove_entry test es) n ≤ bucket_size place es n
  size_cut [] test n = omega arith
  size_cut (e ∷ es) test n = go (test e.0) (size_cut es test n)
    where
      go : (b : Bool) → bucket_size place (remove_entry test es) n ≤ bucket_size place es n
          → bucket_size place (cond b es (e ∷ remove_entry test es)) n ≤ bucket_size place (e ∷ es) n
      go true rest = let one = size_cons e es n in omega arith
      go false rest = let one = size_cons e (remove_entry test es) n in let other = size_cons e es n in omega arith

pub max-left : (a b : ℕ) → a ≤ max a b
max-left a b = grind arith

pub max-right : (a b : ℕ) → b ≤ max a b
max-right a b = grind arith

-- ---- a list of changes, each of which takes at most as many steps as the key's bucket has entries then, and one

module _ {K V : Type 0} (place : K → ℕ) (old : List (K × V)) where
  most_at : (most : ℕ) (keys : List K) (i : ℕ) (d : K) → AtMost place old most keys → i < length keys → bucket_size place old (place (get_or keys i d)) ≤ most
  most_at most [] i d h l = absurd (omega arith)
  most_at most (k ∷ keys) zero d h l = h.0
  most_at most (k ∷ keys) (suc i) d h l = most_at most keys i d h.1 (omega arith)

  pub at_most_grows : (most most' : ℕ) (keys : List K) → most ≤ most' → AtMost place old most keys → AtMost place old most' keys
  at_most_grows most most' [] l h = tt
  at_most_grows most most' (k ∷ keys) l h = ((let one = h.0 in omega arith), at_most_grows most most' keys l h.1)

  -- no bucket has more than the fullest
  pub at_most_fullest : (keys : List K) → AtMost place old (fullest place old keys) keys
  at_most_fullest [] = tt
  at_most_fullest (k ∷ keys) =
      (max-left (bucket_size place old (place k)) (fullest place old keys), at_most_grows (fullest place old keys) (fullest place old (k ∷ keys)) keys (max-right (bucket_size place old (place k)) (fullest place old keys)) (at_most_fullest keys))

  more : (a i : ℕ) → a * i + a ≡ a * (i + 1)
  more a i = search arith

  add_up : (a b i w before now new size own : ℕ) → now ≤ before + a * i → new ≤ now + (size + 1) → size ≤ own + i → own + w ≤ a → i < w → a * i + a ≡ b → new ≤ before + b
  add_up a b i w before now new size own h s t l m e = omega arith

  -- the change at an index
  pub steps_more : (most : ℕ) (keys : List K) (i : ℕ) (d k : K) (before now new size : ℕ)
      → AtMost place old most keys → i < length keys → k ≡ get_or keys i d
      → now ≤ before + (most + length keys) * i → new ≤ now + (size + 1) → size ≤ bucket_size place old (place k) + i
      → new ≤ before + (most + length keys) * (i + 1)
  steps_more most keys i d k before now new size h l is cost step sizes =
      let own : bucket_size place old (place k) ≤ most = subst (λ q. bucket_size place old (place q) ≤ most) (sym is) (most_at most keys i d h l) in
      add_up (most + length keys) ((most + length keys) * (i + 1)) i (length keys) before now new size (bucket_size place old (place k)) cost step sizes (omega arith) l (more (most + length keys) i)

-- some of the changes take no more than all
pub steps_all : (before new a i w : ℕ) → new ≤ before + a * i → i ≤ w → new ≤ before + a * w
steps_all before new a i w h l = let grown = mul-le a i a w (omega arith) l in omega arith

-- ---- changes of two maps, none of whose buckets has more than so many entries

split_product : (a w b : ℕ) → a * (w + b) ≡ a * w + a * b
split_product a w b = search arith

pub steps_of_both : (before middle new most w b : ℕ) → middle ≤ before + (most + b) * b → new ≤ middle + (most + w) * w → new ≤ before + (most + w + b) * (w + b)
steps_of_both before middle new most w b first second =
    let one = mul-le (most + w) w (most + w + b) w (omega arith) (omega arith) in
    let other = mul-le (most + b) b (most + w + b) b (omega arith) (omega arith) in
    let all = split_product (most + w + b) w b in
    omega arith
