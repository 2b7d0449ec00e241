-- The names of functions, a symbol at a time.
use Rattle.std.proofs.Common.{◌≡◌, ℕ, ◌+◌, Bool, true, false, List, [], ◌++◌, zero, suc, ◌/◌, length, codes, append-nil, refl, sym, ap, ◌∙◌, add-one, arith}
use Rattle.ebpf_object_file.specs.declared.functions.Functions.{Functions}
use Rattle.ebpf_object_file.specs.declared.symbol.Symbol.{Symbol}
use Rattle.ebpf_object_file.specs.File.{name_limit}
use Rattle.ebpf_object_file.specs.Symbol.{symbol_of, is_function}
use Rattle.ebpf_object_file.specs.Sentences.{name_after, functions_below, names_below, names_of}
use Rattle.ebpf_object_file.specs.Text.{text_at}

pub none_counted : (sections : ℕ) (symbols : List ℕ) → 0 ≡ functions_below sections symbols 0
unfolding functions_below
none_counted sections symbols = refl

pub none_named : (sections : ℕ) (symbols strings : List ℕ) → [] ≡ names_below sections symbols strings 0
unfolding names_below
none_named sections symbols strings = refl

-- the next symbol is a function
pub one_counted : (sections n count : ℕ) (symbols : List ℕ) (s : Symbol) (test : Bool) → s ≡ symbol_of symbols n → test ≡ is_function sections s → test ≡ true
    → count ≡ functions_below sections symbols n → count + 1 ≡ functions_below sections symbols (n + 1)
unfolding functions_below
one_counted sections n count symbols s test is tested is_true counted =
    let function : is_function sections (symbol_of symbols n) ≡ true = ap (is_function sections) (sym is) ∙ sym tested ∙ is_true in
    rw (add-one, add-one, function) (rw counted (omega arith))

pub one_named : (sections n count : ℕ) (symbols strings name : List ℕ) (s : Symbol) (test : Bool) → s ≡ symbol_of symbols n
    → test ≡ is_function sections s → test ≡ true
    → count ≡ functions_below sections symbols n → name ≡ text_at strings s.name name_limit
    → names_below sections symbols strings n ++ name_after count name ≡ names_below sections symbols strings (n + 1)
unfolding names_below
one_named sections n count symbols strings name s test is tested is_true counted named =
    let function : is_function sections (symbol_of symbols n) ≡ true = ap (is_function sections) (sym is) ∙ sym tested ∙ is_true in
    let text : name ≡ text_at strings (symbol_of symbols n).name name_limit = named ∙ ap (λ (x : Symbol). text_at strings x.name name_limit) is in
    rw (add-one, function, ← counted, ← text) refl

-- or it is none
pub same_count : (sections n count : ℕ) (symbols : List ℕ) (s : Symbol) (test : Bool) → s ≡ symbol_of symbols n → test ≡ is_function sections s → test ≡ false
    → count ≡ functions_below sections symbols n → count ≡ functions_below sections symbols (n + 1)
unfolding functions_below
same_count sections n count symbols s test is tested is_false counted =
    let function : is_function sections (symbol_of symbols n) ≡ false = ap (is_function sections) (sym is) ∙ sym tested ∙ is_false in
    rw (add-one, function) (omega (arith, counted))

pub same_names : (sections n : ℕ) (symbols strings : List ℕ) (s : Symbol) (test : Bool) → s ≡ symbol_of symbols n → test ≡ is_function sections s → test ≡ false
    → names_below sections symbols strings n ≡ names_below sections symbols strings (n + 1)
unfolding names_below
same_names sections n symbols strings s test is tested is_false =
    let function : is_function sections (symbol_of symbols n) ≡ false = ap (is_function sections) (sym is) ∙ sym tested ∙ is_false in
    rw (add-one, function) (sym (append-nil (names_below sections symbols strings n)))

-- where none of the symbols is a function, nothing is written of them
no_names : (sections : ℕ) (symbols strings : List ℕ) (n : ℕ) → functions_below sections symbols n ≡ 0 → names_below sections symbols strings n ≡ []
unfolding functions_below names_below
no_names sections symbols strings zero none = refl
no_names sections symbols strings (suc n) none = by_test (is_function sections (symbol_of symbols n)) refl (no_names sections symbols strings n) where
  by_test : (test : Bool) → is_function sections (symbol_of symbols n) ≡ test
      → (functions_below sections symbols n ≡ 0 → names_below sections symbols strings n ≡ [])
      → names_below sections symbols strings (suc n) ≡ []
  by_test true e before = let more : functions_below sections symbols n + 1 ≡ 0 = rw e at none in absurd (omega (arith, more))
  by_test false e before =
      let fewer : functions_below sections symbols n + 0 ≡ 0 = rw e at none in
      let here : functions_below sections symbols n ≡ 0 = omega (arith, fewer) in
      rw e (append-nil (names_below sections symbols strings n) ∙ before here)

pub none_shown : (f : Functions) (n count : ℕ) → n ≡ length f.symbols.now / 24 → count ≡ functions_below f.header.sections f.symbols.now n → count ≡ 0
    → names_below f.header.sections f.symbols.now f.strings.now n ++ codes "none" ≡ names_of f
none_shown f n count end counted none =
    let here : functions_below f.header.sections f.symbols.now n ≡ 0 = sym counted ∙ none in
    rw (no_names f.header.sections f.symbols.now f.strings.now n here, ← end, here) refl
