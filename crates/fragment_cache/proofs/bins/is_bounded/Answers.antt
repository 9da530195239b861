use Rattle.std.proofs.Common.{sym, subst, ◌≤◌}
use Rattle.std.specs.List.{IsDistinct}
use Rattle.cache_entries.specs.Keys.{same_key}
use Rattle.fragment_cache.proofs.Seen.{seen_keys}
use Rattle.fragment_cache.proofs.Shelves.{same_length}
use Rattle.fragment_cache.proofs.bins.is_bounded.Goals as goal

pub returns : goal.returns
returns c =
    let cache = c.args.cache.now in
    let valid = c.len-length.ensures.valid in
    record {
      distinct = subst (IsDistinct same_key) (sym (seen_keys cache.entries)) valid.0;
      within = subst (λ n. n ≤ cache.cap) (same_length cache.entries) valid.1;
      has_room = valid.2;
    }
