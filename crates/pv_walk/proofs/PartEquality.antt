-- The tests for equality of the mask, the named entries and the default part of ACLs hold exactly of equal ones.
use Rattle.std.specs.Prelude.{◌≡◌, ℕ, true, ◌&&◌, List, [], Option, None}
use Rattle.std.specs.Bool.{Decides}
use Rattle.std.specs.Option.{option_eq}
use Rattle.std.proofs.Common.{ap}
use Rattle.std.proofs.lemmas.Bool.{and_parts}
use Rattle.pv_acl.specs.declared.part.Acl.{Acl}
use Rattle.pv_acl.specs.declared.part.Part.{Part}
use Rattle.pv_acl.specs.declared.perm.Named.{Named}
use Rattle.pv_acl.specs.contracts.list.NamedListPartialEq as list_eq
use Rattle.pv_acl.specs.contracts.part.PartPartialEq as part_eq
use Rattle.pv_acl.specs.contracts.perm.PermPartialEq as perm_eq
use Rattle.pv_acl.proofs.Equality.{acl_decides}

-- an ACL with these parts, and else nothing
abbrev of_parts : Option ℕ → List Named → Option Part → Acl
of_parts mask named default_part = record { access = record { owner = 0; group = 0; other = 0; mask = mask; named = named }; default_part = default_part }

pub mask_decides : (x y : Option ℕ) → Decides (option_eq (perm_eq.TheImpl.eq-value).it x y) (x ≡ y)
mask_decides x y =
    let both = acl_decides (of_parts x [] None) (of_parts y [] None) in (
      λ h. ap (λ (a : Acl). a.access.mask) (both.0 (λ i. (h i && true) && true)),
      λ e. (and_parts _ _ (and_parts _ _ (both.1 (λ i. of_parts (e i) [] None))).0).0,
    )

pub named_decides : (x y : List Named) → Decides ((list_eq.TheImpl.eq-value).it x y) (x ≡ y)
named_decides x y =
    let both = acl_decides (of_parts None x None) (of_parts None y None) in (
      λ h. ap (λ (a : Acl). a.access.named) (both.0 (λ i. h i && true)),
      λ e. (and_parts _ _ (both.1 (λ i. of_parts None (e i) None))).0,
    )

pub default_decides : (x y : Option Part) → Decides (option_eq (part_eq.TheImpl.eq-value).it x y) (x ≡ y)
default_decides x y =
    let both = acl_decides (of_parts None [] x) (of_parts None [] y) in (
      λ h. ap (λ (a : Acl). a.default_part) (both.0 h),
      λ e. both.1 (λ i. of_parts None [] (e i)),
    )
