-- What is said of lines has one line each time, as messages need.
use Rattle.std.proofs.Common.{◌≡◌, ℕ, true, ◌++◌, codes, take, refl}
use Rattle.pv_path.specs.Paths.{Path}
use Rattle.pv_path.specs.Printing.{printed_path}
use Rattle.pv_steps.specs.declared.node.Kind.{Kind}
use Rattle.pv_steps.specs.declared.node.Kind.TheVariants.{Directory, File, Link, Fifo, CharDevice, BlockDevice}
use Rattle.pv_steps.specs.declared.why.Why.{Why}
use Rattle.pv_steps.specs.declared.why.Why.TheVariants as why
use Rattle.pv_text.specs.Lines.{is_line}
use Rattle.pv_text.proofs.Characters.{one_line-append, one_line-printed_path}
use Rattle.pv_table.specs.Saying.{kind_text, why_text, left_text, place_text}

one_line-kind_text : (kind : Kind) → is_line (kind_text kind) ≡ true
one_line-kind_text Directory = refl
one_line-kind_text File = refl
one_line-kind_text Link = refl
one_line-kind_text Fifo = refl
one_line-kind_text CharDevice = refl
one_line-kind_text BlockDevice = refl

one_line-why_text : (reason : Why) → is_line (why_text reason) ≡ true
one_line-why_text why.Link = refl
one_line-why_text why.NotDirectory = refl
one_line-why_text why.UnsafeOwner = refl

pub one_line-left_text : (path : Path) (kind : Kind) → is_line (left_text path kind) ≡ true
one_line-left_text path kind =
    let front : is_line (printed_path path ++ codes " is a ") ≡ true = one_line-append (printed_path path) (codes " is a ") (one_line-printed_path path) refl in
    let named : is_line (printed_path path ++ codes " is a " ++ kind_text kind) ≡ true = one_line-append (printed_path path ++ codes " is a ") (kind_text kind) front (one_line-kind_text kind) in
    one_line-append (printed_path path ++ codes " is a " ++ kind_text kind) (codes ", left") named refl

pub one_line-place_text : (path : Path) (k : ℕ) (reason : Why) → is_line (place_text path k reason) ≡ true
one_line-place_text path k reason =
    let front : is_line (printed_path path ++ codes " refused at ") ≡ true = one_line-append (printed_path path) (codes " refused at ") (one_line-printed_path path) refl in
    let place : is_line (printed_path path ++ codes " refused at " ++ printed_path (take k path)) ≡ true =
    one_line-append (printed_path path ++ codes " refused at ") (printed_path (take k path)) front (one_line-printed_path (take k path)) in
    let colon : is_line (printed_path path ++ codes " refused at " ++ printed_path (take k path) ++ codes ": ") ≡ true =
    one_line-append (printed_path path ++ codes " refused at " ++ printed_path (take k path)) (codes ": ") place refl in
    one_line-append (printed_path path ++ codes " refused at " ++ printed_path (take k path) ++ codes ": ") (why_text reason) colon (one_line-why_text reason)
