-- Bounds the bytes of an attribute of a method: their number fits four bytes (JVMS 4.7.3, 4.7.5).
use Rattle.std.proofs.Common.{◌≡◌, ℕ, ◌+◌, ◌≤◌, List, [], ◌++◌, length, nat_le, ap, ◌∙◌, arith}
use Rattle.std.specs.Prelude.{nat_lt}
use Rattle.std.proofs.lemmas.Bool.{and_parts, leb-true}
use Rattle.std.proofs.lemmas.List.{length-append}
use Rattle.jvms_file.specs.declared.class_file.Constant.{Constant}
use Rattle.jvms_file.specs.declared.class_file.Handler.{Handler}
use Rattle.jvms_file.specs.declared.class_file.Code.{Code}
use Rattle.jvms_file.specs.Spelling.{u2, u4, IsU4, Counted, SpellsKept, SpellsHandler, SpellsCode, SpellsClassNumber}
use Rattle.classfile_laws.proofs.Numbers.{length-u2, length-u4}
use Rattle.class_spelling_laws.proofs.Lists.{counted_size, no_size}

length_of_three : (a b c : List ℕ) → length (a ++ (b ++ c)) ≡ length a + (length b + length c)
length_of_three a b c = length-append a (b ++ c) ∙ ap (λ n. length a + n) (length-append b c)

length_of_six : (a b c d e f : List ℕ) → length (a ++ (b ++ (c ++ (d ++ (e ++ f))))) ≡ length a + (length b + (length c + (length d + (length e + length f))))
length_of_six a b c d e f =
    length_of_three a b (c ++ (d ++ (e ++ f)))
    ∙ ap (λ n. length a + (length b + n)) (length_of_three c d (e ++ f) ∙ ap (λ n. length c + (length d + n)) (length-append e f))

handler_size : (pool : List Constant) (pcs : List ℕ) (code_length : ℕ) (bytes : List ℕ) (h : Handler) → SpellsHandler pool pcs code_length bytes h → length bytes ≤ 8
handler_size pool pcs code_length bytes h is =
    let whole : length bytes ≡ length (u2 is.0) + (length (u2 is.1) + length (u2 is.2 ++ u2 h.catch_type)) = ap length is.12 ∙ length_of_three (u2 is.0) (u2 is.1) (u2 is.2 ++ u2 h.catch_type) in
    let behind = length-append (u2 is.2) (u2 h.catch_type) in
    let a = length-u2 is.0 in
    let b = length-u2 is.1 in
    let c = length-u2 is.2 in
    let d = length-u2 h.catch_type in
    omega arith

-- A Code attribute without attributes of its own has a length that fits four bytes.
pub code_size : (pool : List Constant) (major : ℕ) (bytes : List ℕ) (c : Code) → c.attributes ≡ [] → SpellsCode pool major bytes c → IsU4 (length bytes)
code_size pool major bytes c none is =
    let most : length is.2 ≤ 65535 = leb-true (length is.2) 65535 (and_parts (nat_lt 0 (length is.2)) (nat_le (length is.2) 65535) is.3).1 in
    let table = counted_size (SpellsHandler pool c.layout.starts (length is.2)) 8 (handler_size pool c.layout.starts (length is.2)) is.6 c.handlers is.7 in
    let attributes = no_size (SpellsKept pool) is.8 c.attributes none is.9 in
    let whole = ap length is.10 ∙ length_of_six (u2 c.max_stack) (u2 c.max_locals) (u4 (length is.2)) is.2 is.6 is.8 in
    let stack = length-u2 c.max_stack in
    let locals = length-u2 c.max_locals in
    let count = length-u4 (length is.2) in
    omega arith

number_size : (pool : List Constant) (bytes : List ℕ) (n : ℕ) → SpellsClassNumber pool bytes n → length bytes ≤ 2
number_size pool bytes n is = let two : length bytes ≡ 2 = ap length is.2 ∙ length-u2 n in omega arith

pub numbers_size : (pool : List Constant) (bytes : List ℕ) (numbers : List ℕ) → Counted (SpellsClassNumber pool) bytes numbers → IsU4 (length bytes)
numbers_size pool bytes numbers is =
    let size = counted_size (SpellsClassNumber pool) 2 (number_size pool) bytes numbers is in
    omega arith
