-- What Drupal's Html::escape makes of a text (api.drupal.org, Drupal\Component\Utility\Html::escape), which is PHP's
-- htmlspecialchars with ENT_QUOTES: the five characters that OWASP's Cross Site Scripting Prevention Cheat Sheet lists.
use Rattle.std.specs.Prelude.{ℕ, List, [], ◌∷◌, codes, if◌then◌else◌, ◌==◌, ◌&&◌, not, Bool}
use Rattle.std.specs.List.{flat_map}

-- what stands for a byte: for & < > " and ' an entity, for any other the byte itself
abbrev pub escaped_byte : ℕ → List ℕ
escaped_byte byte =
    if byte == 38 then codes "&amp;"
    else if byte == 60 then codes "&lt;"
    else if byte == 62 then codes "&gt;"
    else if byte == 34 then codes "&quot;"
    else if byte == 39 then codes "&#039;"
    else byte ∷ []

-- the text with each byte escaped by itself
unfoldable pub escaped : List ℕ → List ℕ
escaped text = flat_map escaped_byte text

-- the byte opens or closes no tag and no quoted attribute: it is none of < > " and '
abbrev pub is_inert : ℕ → Bool
is_inert byte = not (byte == 60) && not (byte == 62) && not (byte == 34) && not (byte == 39)
