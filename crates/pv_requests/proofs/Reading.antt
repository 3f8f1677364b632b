-- The request of a line, by its fields.
use Rattle.std.proofs.Common.{◌≡◌, ℕ, List, Ok, sym, ap}
use Rattle.pv_text.specs.Facts.{Values}
use Rattle.pv_text.specs.Fields.{Cut, fields_of}
use Rattle.pv_text.specs.declared.place.Place.{Place}
use Rattle.pv_requests.specs.Requests.{request_in, request_of}

pub request_of-fields : (facts : Values) (place : Place) (line : List ℕ) (cut : Cut) → cut.line ≡ line → fields_of line ≡ Ok cut.spans → request_of facts place line ≡ request_in facts place cut
request_of-fields facts place line cut same read =
    rw read (ap (λ (l : List ℕ). request_in facts place (record { line = l; spans = cut.spans })) (sym same))
