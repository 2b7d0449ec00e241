use Rattle.ebpf_object_file.proofs.Texts.{text_from_test, test_from_text}
use Rattle.ebpf_object_file.proofs.text.test_finds_names.Goals as goal

pub returns : goal.returns
returns c = λ strings at name inner.
    (λ e. let found = text_from_test strings name at e in (found.0, found.1, inner), λ x. test_from_text strings name x.0 at x.1)
