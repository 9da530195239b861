-- The test tells whether two keys are the same.
use Rattle.std.proofs.Common.{ℕ, zero, suc, List, true≢false, ◌≡◌, ◌&&◌, ◌==◌, refl, sym, ◌∙◌, ap}
use Rattle.std.specs.Bool.{Decides}
use Rattle.std.specs.Cmp.{IsEquivalence}
use Rattle.std.specs.Cmp.Lexicographic.{pointwise}
use Rattle.std.specs.Hash.{Alike, same_Alike}
use Rattle.std.specs.Str.{bytes_eq}
use Rattle.std.proofs.lemmas.Bool.Decides.{Decides-eqb, Decides-like, Decides-and}
use Rattle.std.proofs.lemmas.Slice.Eq.{slice_eq-Decides, bytes_eq-Decides}
use Rattle.content_state.specs.declared.element.Depth.TheVariants as depth
use Rattle.content_state.specs.declared.element.Fragment.{Fragment}
use Rattle.content_state.specs.declared.element.Fragment.TheVariants as fragment
use Rattle.content_state.specs.declared.element.Mode.{Mode}
use Rattle.content_state.specs.declared.element.Mode.TheVariants as mode
use Rattle.content_state.specs.declared.element.Placing.{Placing}
use Rattle.content_state.specs.declared.element.Placing.TheVariants as placing
use Rattle.cache_contexts.specs.Same.{same_context_value}
use Rattle.cache_contexts.specs.SameLaws.{equivalence, context_value_decided}
use Rattle.cache_entries.specs.declared.key.Key.{Key}
use Rattle.cache_entries.specs.declared.key.Subject.{Subject}
use Rattle.cache_entries.specs.declared.key.Subject.TheVariants as subject
use Rattle.cache_entries.specs.Keys.{placing_number, mode_number, same_fragment, same_subject, same_key, key_writes}

abbrev placing_of : ℕ → Placing
placing_of zero = placing.OnPage
placing_of (suc _) = placing.InBlock

placing_back : (p : Placing) → placing_of (placing_number p) ≡ p
placing_back placing.OnPage = refl
placing_back placing.InBlock = refl

abbrev mode_of : ℕ → Mode
mode_of zero = mode.Full
mode_of (suc zero) = mode.Teaser
mode_of (suc (suc zero)) = mode.Embed depth.One
mode_of (suc (suc (suc zero))) = mode.Embed depth.Two
mode_of (suc (suc (suc (suc _)))) = mode.Embed depth.Three

mode_back : (m : Mode) → mode_of (mode_number m) ≡ m
mode_back mode.Full = refl
mode_back mode.Teaser = refl
mode_back (mode.Embed depth.One) = refl
mode_back (mode.Embed depth.Two) = refl
mode_back (mode.Embed depth.Three) = refl

same_placing : (p q : Placing) → placing_number p ≡ placing_number q → p ≡ q
same_placing p q e = sym (placing_back p) ∙ ap placing_of e ∙ placing_back q

same_mode : (m n : Mode) → mode_number m ≡ mode_number n → m ≡ n
same_mode m n e = sym (mode_back m) ∙ ap mode_of e ∙ mode_back n

fragment_decided : (a b : Fragment) → Decides (same_fragment a b) (a ≡ b)
fragment_decided (fragment.Block a) (fragment.Block b) = Decides-like (bytes_eq a b) (λ e. ap fragment.Block e) (λ e. cc) (bytes_eq-Decides a b)
fragment_decided (fragment.Menu a) (fragment.Menu b) = Decides-like (bytes_eq a b) (λ e. ap fragment.Menu e) (λ e. cc) (bytes_eq-Decides a b)
fragment_decided (fragment.Listing a p) (fragment.Listing b q) =
    Decides-like (bytes_eq a b && (placing_number p == placing_number q))
    (λ e i. fragment.Listing (e.0 i) (same_placing p q e.1 i)) (λ e. (cc, ap placing_number (other_placing a b p q e)))
    (Decides-and (bytes_eq a b) (placing_number p == placing_number q) (bytes_eq-Decides a b) (Decides-eqb (placing_number p) (placing_number q)))
  where
    other_placing : (x y : List ℕ) (r s : Placing) → fragment.Listing x r ≡ fragment.Listing y s → r ≡ s
    other_placing x y r s e = cc
fragment_decided (fragment.TermListing a) (fragment.TermListing b) = Decides-like (a == b) (λ e. ap fragment.TermListing e) (λ e. cc) (Decides-eqb a b)
fragment_decided (fragment.Node a m) (fragment.Node b n) =
    Decides-like (a == b && (mode_number m == mode_number n))
    (λ e i. fragment.Node (e.0 i) (same_mode m n e.1 i)) (λ e. (cc, ap mode_number (other_mode a b m n e)))
    (Decides-and (a == b) (mode_number m == mode_number n) (Decides-eqb a b) (Decides-eqb (mode_number m) (mode_number n)))
  where
    other_mode : (x y : ℕ) (r s : Mode) → fragment.Node x r ≡ fragment.Node y s → r ≡ s
    other_mode x y r s e = cc
fragment_decided _ _ = (λ e. absurd (true≢false (sym e)), λ e. cc)

subject_decided : (a b : Subject) → Decides (same_subject a b) (a ≡ b)
subject_decided (subject.Fragment a) (subject.Fragment b) = Decides-like (same_fragment a b) (λ e. ap subject.Fragment e) (λ e. cc) (fragment_decided a b)
subject_decided (subject.Page a) (subject.Page b) = Decides-like (bytes_eq a b) (λ e. ap subject.Page e) (λ e. cc) (bytes_eq-Decides a b)
subject_decided (subject.Target a) (subject.Target b) = Decides-like (bytes_eq a b) (λ e. ap subject.Target e) (λ e. cc) (bytes_eq-Decides a b)
subject_decided _ _ = (λ e. absurd (true≢false (sym e)), λ e. cc)

pub key_decided : (a b : Key) → Decides (same_key a b) (a ≡ b)
key_decided a b =
    Decides-like (same_key a b)
    (λ e i. record { subject = e.0 i; values = e.1 i })
    (λ e. (ap (λ k. k.subject) e, ap (λ k. k.values) e))
    (Decides-and (same_subject a.subject b.subject) (pointwise same_context_value a.values b.values) (subject_decided a.subject b.subject) (slice_eq-Decides context_value_decided a.values b.values (pointwise same_context_value a.values b.values) refl))

pub keys_equiv : IsEquivalence same_key
keys_equiv = equivalence same_key key_decided

-- what is the same is hashed alike
pub keys_alike : Alike same_key key_writes
keys_alike = same_Alike key_writes key_decided
