-- What the code's tokens stand for.
use Rattle.std.specs.Prelude.{List, map}
use Rattle.script_tokens.specs.Tokens.{Token as AToken, number, name, mark}
use Rattle.script_tokens.specs.declared.token.Token.{Token}
use Rattle.script_tokens.specs.declared.token.Token.TheVariants as tokens
use Rattle.script_tokens.specs.declared.token.Placed.{Placed}

abbrev pub token_of : Token → AToken
token_of (tokens.Int n) = number n
token_of (tokens.Name x) = name x.now
token_of (tokens.Mark m) = mark m

abbrev pub tokens_of : List Placed → List AToken
tokens_of = map (λ p. token_of p.token)
