-- Named entries, and extended attributes, that are put one after another.
use Rattle.std.specs.Prelude.{◌≡◌, List}
use Rattle.std.specs.Ordering.{is_lt}
use Rattle.pv_acl.specs.declared.perm.Named.{Named}
use Rattle.pv_acl.specs.NamedEntries.{who_cmp}
use Rattle.pv_acl.proofs.Order.{who_trans, who_asym, who_same}
use Rattle.pv_steps.specs.declared.attr.Attr.{Attr}
use Rattle.pv_path.specs.Names.{name_cmp}
use Rattle.pv_steps.proofs.AttrOrder.{before_trans, before_asym, before_same}
use Rattle.pv_walk.proofs.Settling.{IsChained}
use Rattle.pv_walk.proofs.Placing as placing

module _ {A : Type 0} (named : A → List Named) where
  -- a change gives the named entries one value, or puts some over them
  abbrev pub Puts : (A → A) → Type 0
  Puts = placing.Puts (λ (x : Named). x.who) (λ a b. is_lt (who_cmp a b)) who_trans who_asym who_same named

  pub puts_then : (f g : A → A) → Puts f → Puts g → Puts (λ a. g (f a))
  puts_then = placing.puts_then (λ (x : Named). x.who) (λ a b. is_lt (who_cmp a b)) who_trans who_asym who_same named

  pub puts_twice : (f : A → A) → Puts f → (a : A) → named (f (f a)) ≡ named (f a)
  puts_twice = placing.puts_twice (λ (x : Named). x.who) (λ a b. is_lt (who_cmp a b)) who_trans who_asym who_same named

  pub puts-chained : IsChained Puts
  puts-chained = placing.puts-chained (λ (x : Named). x.who) (λ a b. is_lt (who_cmp a b)) who_trans who_asym who_same named

module _ {A : Type 0} (attrs : A → List Attr) where
  -- a change gives the extended attributes one value, or puts some over them
  abbrev pub PutsAttrs : (A → A) → Type 0
  PutsAttrs = placing.Puts (λ (x : Attr). x.name) (λ a b. is_lt (name_cmp a b)) before_trans before_asym before_same attrs

  pub puts_attrs_twice : (f : A → A) → PutsAttrs f → (a : A) → attrs (f (f a)) ≡ attrs (f a)
  puts_attrs_twice = placing.puts_twice (λ (x : Attr). x.name) (λ a b. is_lt (name_cmp a b)) before_trans before_asym before_same attrs

  pub puts_attrs-chained : IsChained PutsAttrs
  puts_attrs-chained = placing.puts-chained (λ (x : Attr). x.name) (λ a b. is_lt (name_cmp a b)) before_trans before_asym before_same attrs
