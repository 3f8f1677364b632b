-- What an object of the tree holds besides its node: a payload, and the numbers of its children.
use Rattle.std.specs.Prelude.{ℕ, List, refl}
use Rattle.std.specs.Coded.{Coded, code_by, coded×, coded_list, coded_ℕ}
use Rattle.pv_tree.specs.Children.{Children, children_code}

-- The bytes of a file or the target of a link, and the numbers of the children of a directory by their names.
pub record Content : Type 0 where
  pub payload : List ℕ
  pub children : Children

-- Such a content is coded as a pair of both.
abbrev pub content_code : Coded Content
content_code =
    code_by (List ℕ × Children)
    (coded× (coded_list coded_ℕ) children_code)
    (λ c. (c.payload, c.children))
    (λ p. record { payload = p.0; children = p.1 })
    (λ _. refl)
