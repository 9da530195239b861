-- The words of a map in the order of use, over what is kept in it and over the things that contracts see.
use Rattle.std.proofs.Common.{ℕ, List, [], ◌∷◌, ◌≡◌, ◌-◌, Bool, true, false, cond, refl, ◌∙◌, ap, take, Option, Some, None}
use Rattle.std.specs.Option.{option_map, option_map_or}
use Rattle.std.specs.Map.{keys_of, lookup, lookup_entry, remove_entry}
use Rattle.std.proofs.lemmas.List.{take-map}
use Rattle.lru.specs.LruCache.{lru_cache, promoted, put_entries}
use Rattle.cache_entries.specs.declared.key.Key.{Key}
use Rattle.cache_entries.specs.declared.kept.Kept.{Kept}
use Rattle.fragment_cache.specs.Bins.{thing_of, thing_entry, things_of}

pub seen_keys : (es : List (Key × Kept)) → keys_of (things_of es) ≡ keys_of es
seen_keys [] = refl
seen_keys (e ∷ es) = ap (λ ks. e.0 ∷ ks) (seen_keys es)

module _ (test : Key → Bool) where
  pub seen_value : (es : List (Key × Kept)) → lookup test (things_of es) ≡ option_map thing_of (lookup test es)
  seen_value [] = refl
  seen_value (e ∷ es) = go (test e.0) (seen_value es)
    where
      go : (b : Bool) → lookup test (things_of es) ≡ option_map thing_of (lookup test es) → cond b (Some (thing_of e.1)) (lookup test (things_of es)) ≡ option_map thing_of (cond b (Some e.1) (lookup test es))
      go true rest = refl
      go false rest = rest

  pub seen_entry : (es : List (Key × Kept)) → lookup_entry test (things_of es) ≡ option_map thing_entry (lookup_entry test es)
  seen_entry [] = refl
  seen_entry (e ∷ es) = go (test e.0) (seen_entry es)
    where
      go : (b : Bool) → lookup_entry test (things_of es) ≡ option_map thing_entry (lookup_entry test es) → cond b (Some (thing_entry e)) (lookup_entry test (things_of es)) ≡ option_map thing_entry (cond b (Some e) (lookup_entry test es))
      go true rest = refl
      go false rest = rest

  pub seen_others : (es : List (Key × Kept)) → remove_entry test (things_of es) ≡ things_of (remove_entry test es)
  seen_others [] = refl
  seen_others (e ∷ es) = go (test e.0) (seen_others es)
    where
      go : (b : Bool) → remove_entry test (things_of es) ≡ things_of (remove_entry test es) → cond b (things_of es) (thing_entry e ∷ remove_entry test (things_of es)) ≡ things_of (cond b es (e ∷ remove_entry test es))
      go true rest = refl
      go false rest = ap (λ l. thing_entry e ∷ l) rest

  promoted_by : (es : List (Key × Kept)) (o : Option (Key × Kept)) → option_map_or (λ e. e ∷ remove_entry test (things_of es)) (option_map thing_entry o) (things_of es) ≡ things_of (option_map_or (λ e. e ∷ remove_entry test es) o es)
  promoted_by es None = refl
  promoted_by es (Some e) = ap (λ l. thing_entry e ∷ l) (seen_others es)

  pub seen_promoted : (es : List (Key × Kept)) → promoted test (things_of es) ≡ things_of (promoted test es)
  seen_promoted es =
      ap (λ o. option_map_or (λ e. e ∷ remove_entry test (things_of es)) o (things_of es)) (seen_entry es)
      ∙ promoted_by es (lookup_entry test es)

module _ (eq : Key → Key → Bool) (es : List (Key × Kept)) (room : ℕ) (key : Key) (kept : Kept) where
  put_by : (o : Option (Key × Kept)) → option_map_or (λ e. (e.0, thing_of kept) ∷ remove_entry (eq key) (things_of es)) (option_map thing_entry o) ((key, thing_of kept) ∷ take (room - 1) (things_of es)) ≡ things_of (option_map_or (λ e. (e.0, kept) ∷ remove_entry (eq key) es) o ((key, kept) ∷ take (room - 1) es))
  put_by None = ap (λ l. (key, thing_of kept) ∷ l) (take-map thing_entry (room - 1) es)
  put_by (Some e) = ap (λ l. (e.0, thing_of kept) ∷ l) (seen_others (eq key) es)

  pub seen_put : put_entries eq (lru_cache (things_of es) room) key (thing_of kept) ≡ things_of (put_entries eq (lru_cache es room) key kept)
  seen_put =
      ap (λ o. option_map_or (λ e. (e.0, thing_of kept) ∷ remove_entry (eq key) (things_of es)) o ((key, thing_of kept) ∷ take (room - 1) (things_of es))) (seen_entry (eq key) es)
      ∙ put_by (lookup_entry (eq key) es)
