use Rattle.std.proofs.Common.{◌≡◌, Ok, rules}
use Rattle.base64.specs.GeneralPurpose.{IsStrict, decode_of}
use Rattle.base64.specs.Engines.{standard}
use Rattle.pv_image.proofs.Contents.{all_bytes, bytes_all}
use Rattle.pv_image.proofs.payload.decode.Goals as goal

strict : IsStrict standard
strict = search rules

pub returns-in-Ok : goal.returns-in-Ok
returns-in-Ok c = rw c.from_vec.ensures (bytes_all c.in-Ok.bytes.items c.in-Ok.ensures.bytes, c.in-Ok.ensures.exact strict)

pub returns-in-Err-DecodeError : goal.returns-in-Err-DecodeError
returns-in-Err-DecodeError c = λ x is e.
    let decoded : decode_of standard c.args.text.now ≡ Ok x = (c.in-Err-DecodeError.ensures.strict strict x (all_bytes x is)).1 e in
    let failed = rw c.in-Err-DecodeError.field-0-is at c.in-Err-DecodeError.ensures.err in
    cc (decoded, failed)
