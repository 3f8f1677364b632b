-- The ACL that a field of a tree image spells, beside the mode of the object.
use Rattle.std.specs.Prelude.{◌≡◌, ℕ, Bool, true, List, Option, Some, None, is_some, option_and_then, if◌then◌else◌}
use Rattle.pv_acl.specs.declared.part.Acl.{Acl}
use Rattle.pv_acl.specs.NamedEntries.{is_id}
use Rattle.pv_acl.specs.Numbers.{number_of}
use Rattle.pv_acl.specs.Parts.{base_of, part_of_mode, is_acl}
use Rattle.pv_acl.specs.Texts.{acl_text}

-- A field spells an ACL if it is the one text of this ACL, and the mode gives the base entries of the ACL. An object
-- may have the ACL, and only a directory has a default part.
pub record IsSpelt (field : List ℕ) (mode : ℕ) (directory : Bool) (acl : Acl) : Type 0 where
  pub text : acl_text acl ≡ field
  pub base : base_of acl.access ≡ part_of_mode mode
  pub allowed : is_acl acl ≡ true
  pub kind : is_some acl.default_part ≡ true → directory ≡ true

-- The ID that a text writes in an image: any that a user or a group may have.
abbrev pub decimal_id : List ℕ → Option ℕ
decimal_id text = option_and_then (λ n. if is_id n then Some n else None) (number_of text)
