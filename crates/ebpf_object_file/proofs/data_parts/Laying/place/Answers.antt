use Rattle.std.proofs.Common.{◌≡◌, ◌+◌, ◌<◌, ◌≤◌, ◌-◌, ℕ, List, [], ◌∷◌, ◌++◌, length, Some, None, sym, subst, ◌∙◌, refl, ap, arith}
use Rattle.std.proofs.lemmas.List.{get_or_read}
use Rattle.std.specs.Vec.{with_item}
use Rattle.ebpf_object_file.specs.declared.data_parts.Part.{Part}
use Rattle.ebpf_object_file.specs.declared.data_parts.Laying.{Laying}
use Rattle.ebpf_object_file.specs.declared.data_parts.TheConstants.{MOST_BYTES}
use Rattle.ebpf_object_file.specs.Section.{sections_in}
use Rattle.ebpf_object_file.proofs.Layings.{placed_before, placed_now, none_by}
use Rattle.ebpf_object_file.proofs.data_parts.Laying.place.Goals as goal

room : (file : List ℕ) (l : Laying) (section : ℕ) → length l.begins.items ≡ sections_in file → section < sections_in file → section < length l.begins.items
room file l section rooms inside = subst (λ (x : ℕ). section < x) (sym rooms) inside

pub returns-in-Some : goal.returns-in-Some
returns-in-Some c =
    let l = c.args.self.now in
    let inside = room c.args.file.now c.args.self.now c.args.section c.requires.laying.rooms c.requires.section in
    let here = get_or_read l.begins.items c.args.section c.index.result.now inside c.index.ensures None in record {
      placed = placed_before c.args.file.now c.args.section l c.in-Some.from c.requires.laying (sym here ∙ c.in-Some.is);
    }

pub returns : goal.returns
returns c =
    let l = c.args.self.now in
    let inside = room c.args.file.now c.args.self.now c.args.section c.requires.laying.rooms c.requires.section in
    let here = get_or_read l.begins.items c.args.section c.index.result.now inside c.index.ensures None in
    let new : Laying = record {
      parts = c.push.new.self;
      size = c.args.self.now.size + length c.bytes_of.result.now;
      begins = with_item c.args.self.now.begins c.args.section (Some c.args.self.now.size);
    } in
    let part : List ℕ → Part = λ (b : List ℕ). record { section = c.args.section; from = c.args.self.now.size; size = length b } in
    let few : length c.bytes_of.result.now ≤ MOST_BYTES - c.args.self.now.size = c.if-size-from.false in
    let most : c.args.self.now.size ≤ MOST_BYTES = c.requires.laying.most in record {
      placed = placed_now c.args.file.now c.args.section l new c.requires.laying c.requires.section (sym here ∙ none_by c.index.result.now c.in_default.not-Some)
          (c.in_ok-push.ensures.items ∙ ap (λ (b : List ℕ). c.args.self.now.parts.items ++ (part b ∷ [])) c.bytes_of.ensures) refl (ap (λ (b : List ℕ). c.args.self.now.size + length b) c.bytes_of.ensures) (omega (arith, few, most));
    }
