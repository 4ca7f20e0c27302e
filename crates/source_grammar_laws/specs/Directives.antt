-- Defines the grammar of the lines of directives.
use Rattle.std.specs.Prelude.{◌≡◌, ◌⊎◌, IsTrue, ℕ, ◌||◌, List, [], ◌∷◌, ◌++◌, Option, Some, None, bit_or, codes}
use Rattle.jvms_file.specs.Names.{is_method_name, is_initializer_name}
use Rattle.jvms_file.specs.Members.{is_static, is_method_descriptor_for}
use Rattle.jasmin.specs.declared.token.Lexeme.{Lexeme}
use Rattle.jasmin.specs.declared.token.Lexeme.TheVariants as lexeme
use Rattle.jasmin.specs.declared.source.CatchLine.{CatchLine}
use Rattle.jasmin.specs.declared.source.FieldConstant.{FieldConstant}
use Rattle.jasmin.specs.declared.source.FieldConstant.TheVariants as constant
use Rattle.jasmin.specs.declared.source.FieldLine.{FieldLine}
use Rattle.jasmin.specs.Operands.{class_words, field_words, method_words}
use Rattle.source_grammar_laws.specs.Numbers.{SpellsSigned, SpellsUnsigned, SpellsVersion}
use Rattle.source_grammar_laws.specs.Words.{IsName, IsClassName, IsClass, IsFieldDescriptor, IsLabel, HasNoParenthesis, SpellsCaught, SpellsAccess}

-- ---- Outside of methods

-- `.bytecode M.N`.
abbrev pub SpellsBytecode : List Lexeme → Type 0
SpellsBytecode ts =
    (version : List ℕ) × (ts ≡ lexeme.Word (codes ".bytecode") ∷ lexeme.Word version ∷ []) × SpellsVersion version

-- `.source` with a word or a text.
abbrev pub SpellsSourceFile : List Lexeme → Type 0
SpellsSourceFile ts =
    (file : List ℕ) × ((ts ≡ lexeme.Word (codes ".source") ∷ lexeme.Word file ∷ []) ⊎ (ts ≡ lexeme.Word (codes ".source") ∷ lexeme.Text file ∷ []))

-- `.class ACCESS name`, which adds flag 32, or `.interface ACCESS name`, which adds flags 512 and 1024.
abbrev pub SpellsClass : List Lexeme → ℕ → List ℕ → Type 0
SpellsClass ts access name =
    (words : List Lexeme) × (flags : ℕ) × SpellsAccess class_words words flags × IsClassName name
    × (((ts ≡ lexeme.Word (codes ".class") ∷ (words ++ lexeme.Word name ∷ [])) × (access ≡ bit_or flags 32))
    ⊎ ((ts ≡ lexeme.Word (codes ".interface") ∷ (words ++ lexeme.Word name ∷ [])) × (access ≡ bit_or flags 1536)))

-- `.super name`.
abbrev pub SpellsSuper : List Lexeme → List ℕ → Type 0
SpellsSuper ts name = (ts ≡ lexeme.Word (codes ".super") ∷ lexeme.Word name ∷ []) × IsClassName name

-- `.implements name`.
abbrev pub SpellsImplements : List Lexeme → List ℕ → Type 0
SpellsImplements ts name = (ts ≡ lexeme.Word (codes ".implements") ∷ lexeme.Word name ∷ []) × IsClassName name

-- A type whose constant is an int.
abbrev pub IsIntType : List ℕ → Type 0
IsIntType d = (d ≡ codes "I") ⊎ ((d ≡ codes "B") ⊎ ((d ≡ codes "C") ⊎ ((d ≡ codes "S") ⊎ (d ≡ codes "Z"))))

-- The constant of a field: none, or `= number`, or `= "text"` for a String. The number has 32 bits for type I, B, C, S
-- or Z, and 64 for J.
abbrev pub SpellsValue : List ℕ → List Lexeme → Option FieldConstant → Type 0
SpellsValue descriptor ts None = ts ≡ []
SpellsValue descriptor ts (Some (constant.Integer n)) =
    (w : List ℕ) × (ts ≡ lexeme.Equals ∷ lexeme.Word w ∷ []) × IsIntType descriptor × SpellsSigned 31 w n
SpellsValue descriptor ts (Some (constant.Long n)) =
    (w : List ℕ) × (ts ≡ lexeme.Equals ∷ lexeme.Word w ∷ []) × (descriptor ≡ codes "J") × SpellsSigned 63 w n
SpellsValue descriptor ts (Some (constant.String text)) =
    (ts ≡ lexeme.Equals ∷ lexeme.Text text ∷ []) × (descriptor ≡ codes "Ljava/lang/String;")

-- `.field ACCESS name descriptor`, with an optional constant.
abbrev pub SpellsField : List Lexeme → FieldLine → Type 0
SpellsField ts f =
    (words value : List Lexeme) × (ts ≡ lexeme.Word (codes ".field") ∷ (words ++ lexeme.Word f.name ∷ lexeme.Word f.descriptor ∷ value))
    × SpellsAccess field_words words f.access × IsName f.name × IsFieldDescriptor f.descriptor
    × SpellsValue f.descriptor value f.constant

-- `.method ACCESS name(..)r`. The units of the arguments include `this`, except for a static method and `<clinit>`.
abbrev pub SpellsMethod : List Lexeme → ℕ → List ℕ → List ℕ → Type 0
SpellsMethod ts access name descriptor =
    (words : List Lexeme) × (ts ≡ lexeme.Word (codes ".method") ∷ (words ++ lexeme.Word (name ++ descriptor) ∷ []))
    × SpellsAccess method_words words access × IsTrue (is_method_name name) × HasNoParenthesis name
    × IsTrue (is_method_descriptor_for (is_static access || is_initializer_name name) descriptor)

-- ---- Inside methods

-- `.end method`.
abbrev pub SpellsEnd : List Lexeme → Type 0
SpellsEnd ts = ts ≡ lexeme.Word (codes ".end") ∷ lexeme.Word (codes "method") ∷ []

-- `.limit stack n` or `.limit locals n`.
abbrev pub SpellsLimit : List ℕ → List Lexeme → ℕ → Type 0
SpellsLimit what ts n =
    (w : List ℕ) × (ts ≡ lexeme.Word (codes ".limit") ∷ lexeme.Word what ∷ lexeme.Word w ∷ []) × SpellsUnsigned 16 w n

-- `.catch C from A to B using H`.
abbrev pub SpellsCatch : List Lexeme → CatchLine → Type 0
SpellsCatch ts c =
    (w : List ℕ) × (ts ≡ lexeme.Word (codes ".catch") ∷ lexeme.Word w ∷ lexeme.Word (codes "from") ∷ lexeme.Word c.from ∷ lexeme.Word (codes "to") ∷ lexeme.Word c.to ∷ lexeme.Word (codes "using") ∷ lexeme.Word c.using ∷ [])
    × SpellsCaught w c.caught × IsLabel c.from × IsLabel c.to × IsLabel c.using

-- `.throws C`.
abbrev pub SpellsThrows : List Lexeme → List ℕ → Type 0
SpellsThrows ts name = (ts ≡ lexeme.Word (codes ".throws") ∷ lexeme.Word name ∷ []) × IsClass name

-- `.line n`.
abbrev pub SpellsLineNumber : List Lexeme → Type 0
SpellsLineNumber ts =
    (w : List ℕ) × (n : ℕ) × (ts ≡ lexeme.Word (codes ".line") ∷ lexeme.Word w ∷ []) × SpellsUnsigned 16 w n

-- `.var n is name descriptor from A to B`.
abbrev pub SpellsVariable : List Lexeme → Type 0
SpellsVariable ts =
    (w name descriptor from to : List ℕ) × (n : ℕ)
    × (ts ≡ lexeme.Word (codes ".var") ∷ lexeme.Word w ∷ lexeme.Word (codes "is") ∷ lexeme.Word name ∷ lexeme.Word descriptor ∷ lexeme.Word (codes "from") ∷ lexeme.Word from ∷ lexeme.Word (codes "to") ∷ lexeme.Word to ∷ [])
    × SpellsUnsigned 16 w n × IsName name × IsFieldDescriptor descriptor × IsLabel from × IsLabel to
