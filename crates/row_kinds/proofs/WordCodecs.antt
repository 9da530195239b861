-- Words.
use Rattle.std.proofs.Common.{◌≡◌, ℕ, List, Bool, true, false, not, ◌||◌, cond, Some, None, refl, sym, ap, codes}
use Rattle.std.specs.Str.{bytes_eq}
use Rattle.std.proofs.lemmas.Slice.Eq.{bytes_eq-Decides}
use Rattle.serde_json.specs.Data.{Data, null, boolean, number, string, array, object}
use Rattle.content_rows.specs.declared.row.BlockKind.{BlockKind}
use Rattle.content_rows.specs.declared.row.BlockKind.TheVariants as kind
use Rattle.content_rows.specs.declared.row.Region.{Region}
use Rattle.content_rows.specs.declared.row.Region.TheVariants as region
use Rattle.json_keys.specs.Fault.{plain_fault}
use Rattle.json_keys.specs.Form.{block_kinds, regions, is_among}
use Rattle.json_keys.specs.Order.{AllInOrder}
use Rattle.json_keys.specs.declared.rule.Rule.TheVariants as rule
use Rattle.json_keys.specs.declared.shape.Form.TheVariants as form
use Rattle.json_keys.specs.declared.shape.Plain.TheVariants as plain
use Rattle.row_kinds.specs.Look.{kind_in, kind_of, kind_word, kind_data, region_in, region_of, region_word, region_data, nothing_said}
use Rattle.row_kinds.proofs.Codec.{Codec, Back}

is_word : (t word : List ℕ) → bytes_eq t word ≡ true → word ≡ t
is_word t word h = sym ((bytes_eq-Decides t word).0 h)

written : (b : Bool) → cond (not b) (Some rule.Bytes) None ≡ None → b ≡ true
written true h = refl
written false h = absurd cc

-- the word of the kind that a word names, by which of the words it is
kind_at : (t : List ℕ) (a b c d e f : Bool) → bytes_eq t (codes "text") ≡ a → bytes_eq t (codes "menu") ≡ b → bytes_eq t (codes "listing") ≡ c → bytes_eq t (codes "greeting") ≡ d
    → bytes_eq t (codes "csrf") ≡ e → bytes_eq t (codes "clock") ≡ f → (a || (b || (c || (d || (e || (f || false)))))) ≡ true
    → kind_word (cond b kind.Menu (cond c kind.Listing (cond d kind.Greeting (cond e kind.Csrf (cond f kind.Clock kind.Text))))) ≡ t
kind_at t a true c d e f ha hb hc hd he hf h = is_word t (codes "menu") hb
kind_at t a false true d e f ha hb hc hd he hf h = is_word t (codes "listing") hc
kind_at t a false false true e f ha hb hc hd he hf h = is_word t (codes "greeting") hd
kind_at t a false false false true f ha hb hc hd he hf h = is_word t (codes "csrf") he
kind_at t a false false false false true ha hb hc hd he hf h = is_word t (codes "clock") hf
kind_at t true false false false false false ha hb hc hd he hf h = is_word t (codes "text") ha
kind_at t false false false false false false ha hb hc hd he hf h = absurd cc

kind_same : (t : List ℕ) → is_among block_kinds t ≡ true → kind_word (kind_of t) ≡ t
kind_same t h = kind_at t _ _ _ _ _ _ refl refl refl refl refl refl h

kind_kept : (d : Data) → AllInOrder d → plain_fault (plain.Text form.BlockKind) d ≡ None → kind_data (kind_in d) ≡ d
kind_kept (string t) o h = ap string (kind_same t (written (is_among block_kinds t) h))
kind_kept null o h = absurd cc
kind_kept (boolean b) o h = absurd cc
kind_kept (number n) o h = absurd cc
kind_kept (array ds) o h = absurd cc
kind_kept (object ms) o h = absurd cc

kind_back : (k : BlockKind) → Back (plain_fault (plain.Text form.BlockKind)) kind_in kind_data k
kind_back kind.Text = (refl, refl)
kind_back kind.Menu = (refl, refl)
kind_back kind.Listing = (refl, refl)
kind_back kind.Greeting = (refl, refl)
kind_back kind.Csrf = (refl, refl)
kind_back kind.Clock = (refl, refl)

pub block_kind : Codec BlockKind (plain_fault (plain.Text form.BlockKind)) kind_in kind_data nothing_said
block_kind = record { right = λ d o h. tt; back = λ k g. kind_back k; kept = kind_kept }

region_at : (t : List ℕ) (a b c : Bool) → bytes_eq t (codes "header") ≡ a → bytes_eq t (codes "aside") ≡ b → bytes_eq t (codes "footer") ≡ c → (a || (b || (c || false))) ≡ true
    → region_word (cond b region.Aside (cond c region.Footer region.Header)) ≡ t
region_at t a true c ha hb hc h = is_word t (codes "aside") hb
region_at t a false true ha hb hc h = is_word t (codes "footer") hc
region_at t true false false ha hb hc h = is_word t (codes "header") ha
region_at t false false false ha hb hc h = absurd cc

region_same : (t : List ℕ) → is_among regions t ≡ true → region_word (region_of t) ≡ t
region_same t h = region_at t _ _ _ refl refl refl h

region_kept : (d : Data) → AllInOrder d → plain_fault (plain.Text form.Region) d ≡ None → region_data (region_in d) ≡ d
region_kept (string t) o h = ap string (region_same t (written (is_among regions t) h))
region_kept null o h = absurd cc
region_kept (boolean b) o h = absurd cc
region_kept (number n) o h = absurd cc
region_kept (array ds) o h = absurd cc
region_kept (object ms) o h = absurd cc

region_back : (r : Region) → Back (plain_fault (plain.Text form.Region)) region_in region_data r
region_back region.Header = (refl, refl)
region_back region.Aside = (refl, refl)
region_back region.Footer = (refl, refl)

pub region_word_of : Codec Region (plain_fault (plain.Text form.Region)) region_in region_data nothing_said
region_word_of = record { right = λ d o h. tt; back = λ r g. region_back r; kept = region_kept }
