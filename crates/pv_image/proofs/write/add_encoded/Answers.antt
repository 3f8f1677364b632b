use Rattle.std.proofs.Common.{List, ℕ, ◌++◌, ap, ◌∙◌}
use Rattle.base64.proofs.EngineFacts.{encoded_prefix}
use Rattle.base64.specs.GeneralPurpose.{encode_of}
use Rattle.base64.specs.Engines.{standard}
use Rattle.pv_image.proofs.write.add_encoded.Goals as goal

pub returns : goal.returns
returns c =
    let out = c.encode_slice.new.output in
    let text = encoded_prefix (encode_of standard c.args.bytes.now) _ out _ c.in-Ok.count c.encode_slice.result _
    c.encode_slice.auto.output c.encode_slice.ensures.fits c.encode_slice.ensures.too_small c.in-Ok.is c.in-Ok.ensures.written in
    c.in_ok-extend_from_slice.ensures.items ∙ ap (λ (t : List ℕ). c.args.output.now.items ++ t) text
