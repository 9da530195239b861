-- The test tells whether two values of contexts are the same.
use Rattle.std.proofs.Common.{ℕ, List, Bool, true, false, true≢false, ◌≡◌, ◌==◌, refl, sym, ◌∙◌, ap, Option, Some, None}
use Rattle.std.specs.Bool.{Decides}
use Rattle.std.specs.Cmp.{IsEquivalence, booleans_Decides}
use Rattle.std.specs.Option.{option_eq}
use Rattle.std.specs.Cmp.Lexicographic.{pointwise}
use Rattle.std.specs.Hash.{Alike, same_Alike}
use Rattle.std.proofs.lemmas.Bool.Decides.{Decides-eqb, Decides-like, Decides-and}
use Rattle.std.proofs.lemmas.Slice.Eq.{slice_eq-Decides, bytes_eq-Decides}
use Rattle.std.specs.Str.{bytes_eq}
use Rattle.cacheability.specs.Context.{context_text}
use Rattle.cacheability.proofs.Texts.{contexts_apart}
use Rattle.content_rows.specs.declared.row.Grant.{Grant}
use Rattle.content_rows.specs.declared.permission.Permissions.{Permissions}
use Rattle.content_rows.specs.declared.permission.Permissions.TheVariants as permissions
use Rattle.content_rows.specs.declared.permission.ViewGrants.{ViewGrants}
use Rattle.content_rows.specs.declared.permission.ViewGrants.TheVariants as grants
use Rattle.cache_contexts.specs.declared.context_value.AnyValue.{AnyValue}
use Rattle.cache_contexts.specs.declared.context_value.AnyValue.TheVariants as any
use Rattle.cache_contexts.specs.declared.context_value.ContextValue.{ContextValue}
use Rattle.cache_contexts.specs.Same.{same_texts, same_grant, same_permissions, same_grants, same_value, same_context_value, value_writes, context_value_writes}

-- a test that tells what is the same is an equivalence
module _ {K : Type 0} (E : K → K → Bool) (decides : (a b : K) → Decides (E a b) (a ≡ b)) where
  turned : (a b : K) (x y : Bool) → E a b ≡ x → E b a ≡ y → x ≡ y
  turned a b true true e f = refl
  turned a b false false e f = refl
  turned a b true false e f = sym ((decides b a).1 (sym ((decides a b).0 e))) ∙ f
  turned a b false true e f = sym e ∙ (decides a b).1 (sym ((decides b a).0 f))

  pub equivalence : IsEquivalence E
  equivalence = record {
    refl = λ a. (decides a a).1 refl;
    symm = λ a b. turned a b (E a b) (E b a) refl refl;
    congr = λ a b c e. ap (λ x. E x c) ((decides a b).0 e);
  }

texts_decided : (a b : List (List ℕ)) → Decides (same_texts a b) (a ≡ b)
texts_decided a b = slice_eq-Decides bytes_eq-Decides a b (same_texts a b) refl

option_decided : (a b : Option (List ℕ)) → Decides (option_eq bytes_eq a b) (a ≡ b)
option_decided None None = (λ e. refl, λ e. refl)
option_decided None (Some b) = (λ e. absurd (true≢false (sym e)), λ e. cc)
option_decided (Some a) None = (λ e. absurd (true≢false (sym e)), λ e. cc)
option_decided (Some a) (Some b) = Decides-like (bytes_eq a b) (λ e. ap Some e) (λ e. cc) (bytes_eq-Decides a b)

grant_decided : (a b : Grant) → Decides (same_grant a b) (a ≡ b)
grant_decided a b = Decides-like (same_grant a b) (λ e i. record { realm = e.0 i; gid = e.1 i }) (λ e. (ap (λ g. g.realm) e, ap (λ g. g.gid) e)) (Decides-and (bytes_eq a.realm b.realm) (a.gid == b.gid) (bytes_eq-Decides a.realm b.realm) (Decides-eqb a.gid b.gid))

permissions_decided : (a b : Permissions) → Decides (same_permissions a b) (a ≡ b)
permissions_decided permissions.All permissions.All = (λ e. refl, λ e. refl)
permissions_decided (permissions.These a) (permissions.These b) = Decides-like (same_texts a b) (λ e. ap permissions.These e) (λ e. cc) (texts_decided a b)
permissions_decided _ _ = (λ e. absurd (true≢false (sym e)), λ e. cc)

grants_decided : (a b : ViewGrants) → Decides (same_grants a b) (a ≡ b)
grants_decided grants.All grants.All = (λ e. refl, λ e. refl)
grants_decided (grants.These a) (grants.These b) = Decides-like (pointwise same_grant a b) (λ e. ap grants.These e) (λ e. cc) (slice_eq-Decides grant_decided a b (pointwise same_grant a b) refl)
grants_decided _ _ = (λ e. absurd (true≢false (sym e)), λ e. cc)

pub value_decided : (a b : AnyValue) → Decides (same_value a b) (a ≡ b)
value_decided (any.Name a) (any.Name b) = Decides-like (bytes_eq a b) (λ e. ap any.Name e) (λ e. cc) (bytes_eq-Decides a b)
value_decided (any.Text a) (any.Text b) = Decides-like (bytes_eq a b) (λ e. ap any.Text e) (λ e. cc) (bytes_eq-Decides a b)
value_decided (any.Argument a) (any.Argument b) = Decides-like (option_eq bytes_eq a b) (λ e. ap any.Argument e) (λ e. cc) (option_decided a b)
value_decided (any.User a) (any.User b) = Decides-like (a == b) (λ e. ap any.User e) (λ e. cc) (Decides-eqb a b)
value_decided (any.Flag a) (any.Flag b) = Decides-like (same_value (any.Flag a) (any.Flag b)) (λ e. ap any.Flag e) (λ e. cc) (booleans_Decides a b)
value_decided (any.Names a) (any.Names b) = Decides-like (same_texts a b) (λ e. ap any.Names e) (λ e. cc) (texts_decided a b)
value_decided (any.Session a) (any.Session b) = Decides-like (option_eq bytes_eq a b) (λ e. ap any.Session e) (λ e. cc) (option_decided a b)
value_decided (any.Permissions a) (any.Permissions b) = Decides-like (same_permissions a b) (λ e. ap any.Permissions e) (λ e. cc) (permissions_decided a b)
value_decided (any.Grants a) (any.Grants b) = Decides-like (same_grants a b) (λ e. ap any.Grants e) (λ e. cc) (grants_decided a b)
value_decided _ _ = (λ e. absurd (true≢false (sym e)), λ e. cc)

pub context_value_decided : (a b : ContextValue) → Decides (same_context_value a b) (a ≡ b)
context_value_decided a b =
    Decides-like (same_context_value a b)
    (λ e i. record { context = contexts_apart a.context b.context e.0 i; value = e.1 i })
    (λ e. (ap (λ v. context_text v.context) e, ap (λ v. v.value) e))
    (Decides-and (bytes_eq (context_text a.context) (context_text b.context)) (same_value a.value b.value) (bytes_eq-Decides (context_text a.context) (context_text b.context)) (value_decided a.value b.value))

pub values_equiv : IsEquivalence same_value
values_equiv = equivalence same_value value_decided

pub context_values_equiv : IsEquivalence same_context_value
context_values_equiv = equivalence same_context_value context_value_decided

-- what is the same is hashed alike
pub values_alike : Alike same_value value_writes
values_alike = same_Alike value_writes value_decided

pub context_values_alike : Alike same_context_value context_value_writes
context_values_alike = same_Alike context_value_writes context_value_decided
