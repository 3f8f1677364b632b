-- The test of two ACLs for equality, which compares them field by field, holds exactly of an ACL and itself.
use Rattle.std.specs.Prelude.{◌≡◌, ℕ, true, false, ◌&&◌, List, Option, Some, None}
use Rattle.std.specs.Bool.{Decides}
use Rattle.std.specs.Option.{option_eq}
use Rattle.std.specs.Cmp.Lexicographic.{pointwise_decides}
use Rattle.std.proofs.Common.{refl, ap, rules}
use Rattle.std.proofs.lemmas.Bool.{and_parts}
use Rattle.std.proofs.lemmas.Option.{same_Some}
use Rattle.pv_acl.specs.declared.part.Acl.{Acl}
use Rattle.pv_acl.specs.declared.part.Part.{Part}
use Rattle.pv_acl.specs.declared.perm.Named.{Named}
use Rattle.pv_acl.specs.contracts.list.NamedListPartialEq as list_eq
use Rattle.pv_acl.specs.contracts.part.AclPartialEq as acl_eq
use Rattle.pv_acl.specs.contracts.part.PartPartialEq as part_eq
use Rattle.pv_acl.specs.contracts.perm.NamedPartialEq as named_eq
use Rattle.pv_acl.specs.contracts.perm.PermPartialEq as perm_eq

named_decides : (x y : Named) → Decides ((named_eq.TheImpl.eq-value).it x y) (x ≡ y)
named_decides x y = search rules

perm_decides : (x y : ℕ) → Decides ((perm_eq.TheImpl.eq-value).it x y) (x ≡ y)
perm_decides x y = search rules

list_decides : (x y : List Named) → Decides ((list_eq.TheImpl.eq-value).it x y) (x ≡ y)
list_decides x y = pointwise_decides named_decides x y

part_decides : (x y : Part) → Decides ((part_eq.TheImpl.eq-value).it x y) (x ≡ y)
part_decides x y = search (rules, perm_decides, list_decides)

default_decides : (x y : Option Part) → Decides (option_eq (part_eq.TheImpl.eq-value).it x y) (x ≡ y)
default_decides None None = (λ h. refl, λ e. refl)
default_decides None (Some y) = (λ h. let wrong : false ≡ true = h in cc, λ e. cc)
default_decides (Some x) None = (λ h. let wrong : false ≡ true = h in cc, λ e. cc)
default_decides (Some x) (Some y) = (λ h. ap Some ((part_decides x y).0 h), λ e. (part_decides x y).1 (same_Some x y e))

pub acl_decides : (a b : Acl) → Decides ((acl_eq.TheImpl.eq-value).it a b) (a ≡ b)
acl_decides a b =
    let part = part_decides a.access b.access in
    let other = default_decides a.default_part b.default_part in (
      λ h.
          let two = and_parts ((part_eq.TheImpl.eq-value).it a.access b.access) (option_eq (part_eq.TheImpl.eq-value).it a.default_part b.default_part) h in
          λ i. record { access = part.0 two.0 i; default_part = other.0 two.1 i },
      λ e. let p = part.1 (ap (λ (x : Acl). x.access) e) in let q = other.1 (ap (λ (x : Acl). x.default_part) e) in (λ i. p i && q i),
    )
