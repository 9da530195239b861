-- The kinds of value that several keys have.
use Rattle.std.proofs.Common.{◌≤◌, ◌<◌, ℕ, List, Option, arith, lit≤}
use Rattle.serde_json.specs.Data.{array}
use Rattle.content_rows.specs.Kinds.{is_line, is_hex, is_path, is_listing_path, is_block_path, is_text}
use Rattle.json_keys.specs.Fault.{plain_fault, entry_fault, shape_fault}
use Rattle.json_keys.specs.declared.shape.Form.TheVariants as form
use Rattle.json_keys.specs.declared.shape.Plain.TheVariants as plain
use Rattle.json_keys.specs.declared.shape.Entry.TheVariants as entry
use Rattle.json_keys.specs.declared.shape.Shape.TheVariants as shape
use Rattle.row_kinds.specs.Look.{number_in, small_in, text_in, name_in, option_in, list_in, items_in, whole_data, text_data, option_data, items_data, OrNone, IsNameText}
use Rattle.row_kinds.proofs.Codec.{Codec, Between}
use Rattle.row_kinds.proofs.Lists.{null_or, each, IsListOf}
use Rattle.row_kinds.proofs.Numbers.{whole, small}
use Rattle.row_kinds.proofs.Strings.{Passes, line, hex, path, listing_path, block_path, body, name}

-- ---- numbers

pub zero_least : {n : ℕ} → 0 ≤ n
zero_least {n} = omega arith

pub below_top : (n : ℕ) → n < 4294967296 → n ≤ 4294967295
below_top n h = omega arith

pub below_next : (n : ℕ) → n ≤ 4294967295 → n < 4294967296
below_next n h = omega arith

pub gid : Codec ℕ (plain_fault (plain.Whole 0 4294967295)) small_in whole_data (Between 0 4294967295)
gid = small 0 4294967295 (lit≤ tt)

pub next_id : Codec ℕ (plain_fault (plain.Whole 1 4294967295)) small_in whole_data (Between 1 4294967295)
next_id = small 1 4294967295 (lit≤ tt)

pub id : Codec ℕ (plain_fault (plain.Whole 1 4294967294)) small_in whole_data (Between 1 4294967294)
id = small 1 4294967294 (lit≤ tt)

pub owner_id : Codec ℕ (plain_fault (plain.Whole 0 4294967294)) small_in whole_data (Between 0 4294967294)
owner_id = small 0 4294967294 (lit≤ tt)

pub moment : Codec ℕ (plain_fault (plain.Whole 0 4102444800)) number_in whole_data (Between 0 4102444800)
moment = whole 0 4102444800

-- ---- values that may be null

pub maybe_line : (most : ℕ) → Codec (Option (List ℕ)) (entry_fault (entry.NullOr (plain.Text (form.Line most)))) (option_in text_in) (option_data text_data) (OrNone (Passes (is_line most)))
maybe_line most = null_or (plain.Text (form.Line most)) (line most)

pub maybe_hex : (count : ℕ) → Codec (Option (List ℕ)) (entry_fault (entry.NullOr (plain.Text (form.Hex count)))) (option_in text_in) (option_data text_data) (OrNone (Passes (is_hex count)))
maybe_hex count = null_or (plain.Text (form.Hex count)) (hex count)

pub maybe_path : Codec (Option (List ℕ)) (entry_fault (entry.NullOr (plain.Text form.Path))) (option_in text_in) (option_data text_data) (OrNone (Passes is_path))
maybe_path = null_or (plain.Text form.Path) path

pub maybe_listing_path : Codec (Option (List ℕ)) (entry_fault (entry.NullOr (plain.Text form.ListingPath))) (option_in text_in) (option_data text_data) (OrNone (Passes is_listing_path))
maybe_listing_path = null_or (plain.Text form.ListingPath) listing_path

pub maybe_body : Codec (Option (List ℕ)) (entry_fault (entry.NullOr (plain.Text form.Body))) (option_in text_in) (option_data text_data) (OrNone (Passes is_text))
maybe_body = null_or (plain.Text form.Body) body

pub maybe_name : Codec (Option (List ℕ)) (entry_fault (entry.NullOr (plain.Text form.Name))) (option_in name_in) (option_data text_data) (OrNone IsNameText)
maybe_name = null_or (plain.Text form.Name) name

pub maybe_age : Codec (Option ℕ) (entry_fault (entry.NullOr (plain.Whole 0 86400))) (option_in small_in) (option_data whole_data) (OrNone (Between 0 86400))
maybe_age = null_or (plain.Whole 0 86400) (small 0 86400 (lit≤ tt))

pub maybe_span : Codec (Option ℕ) (entry_fault (entry.NullOr (plain.Whole 1 31536000))) (option_in small_in) (option_data whole_data) (OrNone (Between 1 31536000))
maybe_span = null_or (plain.Whole 1 31536000) (small 1 31536000 (lit≤ tt))

pub maybe_id : Codec (Option ℕ) (entry_fault (entry.NullOr (plain.Whole 1 4294967294))) (option_in small_in) (option_data whole_data) (OrNone (Between 1 4294967294))
maybe_id = null_or (plain.Whole 1 4294967294) id

-- ---- lists

pub permissions : Codec (List (List ℕ)) (shape_fault (shape.Each 256 (entry.One (plain.Text (form.Line 128))))) (λ d. list_in text_in (items_in d)) (λ xs. array (items_data text_data xs)) (IsListOf 256 (Passes (is_line 128)))
permissions = each 256 (entry.One (plain.Text (form.Line 128))) (line 128)

pub names : Codec (List (List ℕ)) (shape_fault (shape.Each 32 (entry.One (plain.Text form.Name)))) (λ d. list_in name_in (items_in d)) (λ xs. array (items_data text_data xs)) (IsListOf 32 IsNameText)
names = each 32 (entry.One (plain.Text form.Name)) name

pub ids : (most : ℕ) → Codec (List ℕ) (shape_fault (shape.Each most (entry.One (plain.Whole 1 4294967294)))) (λ d. list_in small_in (items_in d)) (λ xs. array (items_data whole_data xs)) (IsListOf most (Between 1 4294967294))
ids most = each most (entry.One (plain.Whole 1 4294967294)) id

pub block_paths : Codec (List (List ℕ)) (shape_fault (shape.Each 32 (entry.One (plain.Text form.BlockPath)))) (λ d. list_in text_in (items_in d)) (λ xs. array (items_data text_data xs)) (IsListOf 32 (Passes is_block_path))
block_paths = each 32 (entry.One (plain.Text form.BlockPath)) block_path
