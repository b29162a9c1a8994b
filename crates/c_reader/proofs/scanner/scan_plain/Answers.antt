use Rattle.std.proofs.Common.{◌≡◌, ℕ, ◌+◌, ◌-◌, ◌<◌, List, [], ◌∷◌, ◌++◌, length, drop, sym, ap, subst, ◌∙◌, arith, length-drop}
use Rattle.std.proofs.lemmas.List.{map-append}
use Rattle.c_tree.specs.Tokens as t
use Rattle.c_tree.specs.LexicalScan.{Blank, Lexed}
use Rattle.c_reader.specs.declared.token.Token.{Token}
use Rattle.c_reader.specs.links.Tokens.{lexeme_of, token_of, tokens_of}
use Rattle.c_reader.proofs.Scans.{IsTextLeft, IsLeft-start, IsLeft-Blank, IsLeft-Lexed, some_of}
use Rattle.c_reader.proofs.scanner.scan_plain.Goals as goal

pub loop-bytes-init : goal.loop-bytes-init
loop-bytes-init c =
    let text = c.args.text.now in
    let P : List Token → Type 0 = λ tokens. IsTextLeft text text (tokens_of tokens) in
    subst P (sym c.new-tokens.ensures.items) (IsLeft-start text)

pub after-rest-requires : goal.after-rest-requires
after-rest-requires c = (some_of c.loop-bytes.rest.now (Blank c.in-Blank.bytes) c.in-Blank.ensures).1

pub after-rest-requires-in-Lexed : goal.after-rest-requires-in-Lexed
after-rest-requires-in-Lexed c =
    (some_of c.loop-bytes.rest.now (Lexed (lexeme_of c.in-Lexed.lexeme) c.in-Lexed.bytes) c.in-Lexed.ensures).1

pub loop-bytes-smaller-in-Blank : goal.loop-bytes-smaller-in-Blank
loop-bytes-smaller-in-Blank c =
    let rest = c.loop-bytes.rest.now in
    let some = some_of rest (Blank c.in-Blank.bytes) c.in-Blank.ensures in
    let less : length c.after-rest.result.now < length rest = omega (arith, some.0, some.1, ap length c.after-rest.ensures, length-drop c.in-Blank.bytes rest)
    in
    less

pub loop-bytes-smaller : goal.loop-bytes-smaller
loop-bytes-smaller c =
    let rest = c.loop-bytes.rest.now in
    let some = some_of rest (Lexed (lexeme_of c.in-Lexed.lexeme) c.in-Lexed.bytes) c.in-Lexed.ensures in
    let less : length c.after-rest-in-Lexed.result.now < length rest =
    omega (arith, some.0, some.1, ap length c.after-rest-in-Lexed.ensures, length-drop c.in-Lexed.bytes rest) in
    less

pub loop-bytes-preserved-in-Blank : goal.loop-bytes-preserved-in-Blank
loop-bytes-preserved-in-Blank c =
    let text = c.args.text.now in
    let found = tokens_of c.loop-bytes.tokens.items in
    let P : List ℕ → Type 0 = λ rest. IsTextLeft text rest found in
    subst P (sym c.after-rest.ensures) (IsLeft-Blank text c.loop-bytes.rest.now found c.in-Blank.bytes c.loop-bytes.invariant c.in-Blank.ensures)

pub loop-bytes-preserved : goal.loop-bytes-preserved
loop-bytes-preserved c =
    let text = c.args.text.now in
    let rest = c.loop-bytes.rest.now in
    let found = tokens_of c.loop-bytes.tokens.items in
    let place : ℕ = length text - length rest in
    let token : Token = record { place = record { 0 = place }; lexeme = c.in-Lexed.lexeme } in
    let at : place + length rest ≡ length text = omega (arith, c.loop-bytes.invariant.at) in
    let more : found ++ token_of token ∷ [] ≡ tokens_of c.push.new.self.items = sym (map-append token_of c.loop-bytes.tokens.items (token ∷ []))
    ∙ ap tokens_of (sym c.in_ok-push-in-Lexed.ensures.items) in
    let P : List ℕ → Type 0 = λ after. IsTextLeft text after (tokens_of c.push.new.self.items) in
    let Q : List t.Token → Type 0 = IsTextLeft text (drop c.in-Lexed.bytes rest) in
    subst P (sym c.after-rest-in-Lexed.ensures)
    (subst Q more (IsLeft-Lexed text rest found place (lexeme_of c.in-Lexed.lexeme) c.in-Lexed.bytes c.loop-bytes.invariant c.in-Lexed.ensures at))
