-- When two keys are the same, as a test, and what of them is hashed.
use Rattle.std.specs.Prelude.{ℕ, Bool, false, ◌&&◌, ◌==◌, ◌+◌, ◌++◌}
use Rattle.std.specs.Cmp.Lexicographic.{pointwise}
use Rattle.std.specs.Str.{bytes_eq}
use Rattle.std.specs.Hash as fed
use Rattle.content_state.specs.declared.element.Depth.TheVariants as depth
use Rattle.content_state.specs.declared.element.Fragment.{Fragment}
use Rattle.content_state.specs.declared.element.Fragment.TheVariants as fragment
use Rattle.content_state.specs.declared.element.Mode.{Mode}
use Rattle.content_state.specs.declared.element.Mode.TheVariants as mode
use Rattle.content_state.specs.declared.element.Placing.{Placing}
use Rattle.content_state.specs.declared.element.Placing.TheVariants as placing
use Rattle.cache_contexts.specs.Same.{same_context_value, context_value_writes, text_writes}
use Rattle.cache_entries.specs.declared.key.Key.{Key}
use Rattle.cache_entries.specs.declared.key.Subject.{Subject}
use Rattle.cache_entries.specs.declared.key.Subject.TheVariants as subject

-- a number for each placing and each mode
abbrev pub placing_number : Placing → ℕ
placing_number placing.OnPage = 0
placing_number placing.InBlock = 1

abbrev pub mode_number : Mode → ℕ
mode_number mode.Full = 0
mode_number mode.Teaser = 1
mode_number (mode.Embed depth.One) = 2
mode_number (mode.Embed depth.Two) = 3
mode_number (mode.Embed depth.Three) = 4

abbrev pub same_fragment : Fragment → Fragment → Bool
same_fragment (fragment.Block a) (fragment.Block b) = bytes_eq a b
same_fragment (fragment.Menu a) (fragment.Menu b) = bytes_eq a b
same_fragment (fragment.Listing a p) (fragment.Listing b q) = bytes_eq a b && (placing_number p == placing_number q)
same_fragment (fragment.TermListing a) (fragment.TermListing b) = a == b
same_fragment (fragment.Node a m) (fragment.Node b n) = a == b && (mode_number m == mode_number n)
same_fragment _ _ = false

abbrev pub same_subject : Subject → Subject → Bool
same_subject (subject.Fragment a) (subject.Fragment b) = same_fragment a b
same_subject (subject.Page a) (subject.Page b) = bytes_eq a b
same_subject (subject.Target a) (subject.Target b) = bytes_eq a b
same_subject _ _ = false

abbrev pub same_key : Key → Key → Bool
same_key a b = same_subject a.subject b.subject && pointwise same_context_value a.values b.values

-- a number for the kind, then the name, the number or the text
abbrev pub fragment_writes : Fragment → fed.HashWrites
fragment_writes (fragment.Block name) = fed.u8 0 ++ text_writes name
fragment_writes (fragment.Menu name) = fed.u8 1 ++ text_writes name
fragment_writes (fragment.Listing name placing) = fed.u8 2 ++ text_writes name
fragment_writes (fragment.TermListing tid) = fed.u8 3 ++ fed.u32 tid
fragment_writes (fragment.Node nid mode) = fed.u8 (4 + mode_number mode) ++ fed.u32 nid

abbrev pub subject_writes : Subject → fed.HashWrites
subject_writes (subject.Fragment f) = fragment_writes f
subject_writes (subject.Page path) = fed.u8 9 ++ text_writes path
subject_writes (subject.Target target) = fed.u8 10 ++ text_writes target

abbrev pub key_writes : Key → fed.HashWrites
key_writes key = subject_writes key.subject ++ fed.slice context_value_writes key.values
