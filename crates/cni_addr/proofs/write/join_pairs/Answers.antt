use Rattle.std.proofs.Common.{◌++◌, get_or, ap, ◌∙◌, arith}
use Rattle.std.specs.String.{string_bytes}
use Rattle.cni_addr.specs.MacText.{byte_text}
use Rattle.cni_addr.proofs.{MacTexts.{first_byte, next_byte}, write.join_pairs.Goals.then-place-gt0+in_ok-push}
use Rattle.cni_addr.proofs.write.join_pairs.Goals.{else-place-gt0}
use Rattle.cni_addr.proofs.write.join_pairs.Goals as goal

pub loop-place-preserved : goal.loop-place-preserved
loop-place-preserved c =
    let bytes = c.args.bytes.now in
    let place = c.loop-place.place in
    let pair = c.as_str.ensures.value ∙ c.in_ok-encode.ensures in
    let pushed = c.in_ok-push_str.ensures.bytes ∙ ap (λ t. string_bytes c.if-place-gt0.text ++ t) pair in
    elim c.if-place-gt0.branch [
      | then-place-gt0+in_ok-push w ↦
          let colon_pushed =
          w.in_ok-push.ensures.bytes
          ∙ ap (λ t. string_bytes c.loop-place.text ++ t) (w.in_ok-push.ensures.ascii (omega arith)) in
          pushed ∙ ap (λ t. t ++ byte_text (get_or bytes place 0)) (ap string_bytes w.text-is ∙ colon_pushed)
          ∙ next_byte bytes (string_bytes c.loop-place.text) place (omega arith) (omega arith) c.loop-place.invariant
      | else-place-gt0 w ↦
          pushed ∙ ap (λ t. string_bytes t ++ byte_text (get_or bytes place 0)) w.text-is
          ∙ first_byte bytes (string_bytes c.loop-place.text) place (omega arith) (omega arith) c.loop-place.invariant
    ]
