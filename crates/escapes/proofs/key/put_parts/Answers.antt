-- A part of the member follows the text.
use Rattle.std.proofs.Common.{refl}
use Rattle.std.specs.String.{string_bytes}
use Rattle.std.proofs.lemmas.Result.{on_err_weaker}
use Rattle.escapes.proofs.Behind.{nothing_behind, name_appended, dot_behind, still_behind, refused}
use Rattle.escapes.proofs.key.put_parts.Goals as goal

pub returns-in_err-push_str-clause-appended : goal.returns-in_err-push_str-clause-appended
returns-in_err-push_str-clause-appended c =
    let start = string_bytes c.args.out.now in
    let class = name_appended start start (string_bytes c.put_name.new.out) c.args.class.now (nothing_behind start start refl) c.in_ok-put_name.ensures.exact in
    refused c.from_residual-in_err-push_str.result start (string_bytes c.put_name.new.out) (string_bytes c.push_str.new.self) class c.in_err-push_str.ensures.bytes

pub returns-in_err-put_name-2-clause-appended : goal.returns-in_err-put_name-2-clause-appended
returns-in_err-put_name-2-clause-appended c =
    let start = string_bytes c.args.out.now in
    let class = name_appended start start (string_bytes c.put_name.new.out) c.args.class.now (nothing_behind start start refl) c.in_ok-put_name.ensures.exact in
    let dot = dot_behind start (string_bytes c.put_name.new.out) (string_bytes c.push_str.new.self) class c.in_ok-push_str.ensures.bytes in
    refused c.from_residual-in_err-put_name-2.result start (string_bytes c.push_str.new.self) (string_bytes c.put_name-2.new.out) dot c.in_err-put_name-2.ensures.kept

pub returns-in_err-push_str-2-clause-appended : goal.returns-in_err-push_str-2-clause-appended
returns-in_err-push_str-2-clause-appended c =
    let start = string_bytes c.args.out.now in
    let class = name_appended start start (string_bytes c.put_name.new.out) c.args.class.now (nothing_behind start start refl) c.in_ok-put_name.ensures.exact in
    let dot = dot_behind start (string_bytes c.put_name.new.out) (string_bytes c.push_str.new.self) class c.in_ok-push_str.ensures.bytes in
    let name = name_appended start (string_bytes c.push_str.new.self) (string_bytes c.put_name-2.new.out) c.args.name.now dot c.in_ok-put_name-2.ensures.exact in
    refused c.from_residual-in_err-push_str-2.result start (string_bytes c.put_name-2.new.out) (string_bytes c.push_str-2.new.self) name c.in_err-push_str-2.ensures.bytes

pub returns-clause-appended : goal.returns-clause-appended
returns-clause-appended c =
    let start = string_bytes c.args.out.now in
    let class = name_appended start start (string_bytes c.put_name.new.out) c.args.class.now (nothing_behind start start refl) c.in_ok-put_name.ensures.exact in
    let dot = dot_behind start (string_bytes c.put_name.new.out) (string_bytes c.push_str.new.self) class c.in_ok-push_str.ensures.bytes in
    let name = name_appended start (string_bytes c.push_str.new.self) (string_bytes c.put_name-2.new.out) c.args.name.now dot c.in_ok-put_name-2.ensures.exact in
    let other = dot_behind start (string_bytes c.put_name-2.new.out) (string_bytes c.push_str-2.new.self) name c.in_ok-push_str-2.ensures.bytes in
    on_err_weaker c.put_name-3.result (λ same. still_behind start (string_bytes c.push_str-2.new.self) (string_bytes c.put_name-3.new.out) other same) c.put_name-3.ensures.kept
