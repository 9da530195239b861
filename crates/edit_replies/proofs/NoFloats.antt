-- What is told of a refusal has no number with a point.
use Rattle.std.proofs.Common.{◌≡◌, ℕ, List, false, refl, arith}
use Rattle.serde_json.specs.Written.{has_float}
use Rattle.row_kinds.specs.Look.{text_data}
use Rattle.access_result.specs.Reason.{reason_text}
use Rattle.cacheability.specs.Tag.{tag_text}
use Rattle.content_rows.specs.CellText.{cell_text}
use Rattle.site_commands.specs.declared.answer.Refusal.{Refusal}
use Rattle.site_commands.specs.declared.answer.Refusal.TheVariants as refusal
use Rattle.edit_replies.specs.Bodies.{refusal_data}

-- a text has none, whether it is UTF-8 or not
text_has_none : (t : List ℕ) → has_float (text_data t) ≡ false
text_has_none t = grind arith

pub no_floats : (r : Refusal) → has_float (refusal_data r) ≡ false
no_floats refusal.Csrf = refl
no_floats refusal.NoTarget = refl
no_floats (refusal.Denied reason) = rw (text_has_none (reason_text reason)) refl
no_floats refusal.TokenClash = refl
no_floats (refusal.Broken field rule) = rw (text_has_none field) refl
no_floats (refusal.UuidTaken id) = refl
no_floats (refusal.Stale vid) = refl
no_floats (refusal.PathTaken cell) = rw (text_has_none (cell_text cell)) refl
no_floats (refusal.CountFull tag) = rw (text_has_none (tag_text tag)) refl
no_floats refusal.LogFull = refl
