-- What somebody who writes other languages may have meant: read off the token at fault and the bytes around it.
use Rattle.std.specs.Prelude.{Bool, List, None, Option, Some, [], codes, drop, false, if◌then◌else◌, nat_eq, nat_lt, not, slice_get, take, true, ℕ, ◌%◌, ◌&&◌, ◌+◌, ◌-◌, ◌||◌, ◌∷◌, length, fold}
use Rattle.std.specs.Option.{unwrap_or}
use Rattle.std.specs.Str.{bytes_eq}
use Rattle.raysim_explain.specs.declared.hint.Hint.{Hint}
use Rattle.raysim_explain.specs.declared.hint.Hint.TheVariants.{Greater, AtLeast, And, Ampersand, Or, Not, Text, Fraction, Method, CapitalLetter, SlashComment, While}
use Rattle.raysim_explain.specs.declared.hint.Hint.TheVariants.{ElseIf, Assignment, Statement, LoneCall, EmptyList, LastComma, Colon, NoResult, Truth, Semicolon}
use Rattle.raysim_explain.specs.declared.hint.Hint.TheVariants.{ListType, Index, Unclosed, NamedArgument, Reserved, Function, Bounds, LonePush, LoneValue}
use Rattle.raysim_explain.specs.declared.hint.Hint.TheVariants.{Break, Item, Sum, Mutable, Tuple, ListLoop, ByteOrderMark, LeastNumber}
use Rattle.raysim_explain.specs.declared.hint.Hint.TheVariants.{VariableType, TypeName, SetOne, Inclusive, Retries}

-- the byte at a place, and 0 where there is none
abbrev pub byte_at : List ℕ → ℕ → ℕ
byte_at text place = unwrap_or (slice_get text place) 0

-- space, tab, carriage return, line feed
abbrev pub is_blank : ℕ → Bool
is_blank b = nat_eq b 32 || (nat_eq b 9 || (nat_eq b 13 || nat_eq b 10))

-- the last byte that is no blank behind one byte more, and 256 more in a comment, whose bytes are none of them
abbrev pub before_step : ℕ → ℕ → ℕ
before_step last b =
    if nat_lt 255 last then (if nat_eq b 10 then last - 256 else last)
    else if nat_eq b 35 then last + 256
    else if is_blank b then last
    else b

-- the last byte that is no blank and in no comment, and 0 where there is none
abbrev pub byte_before : List ℕ → ℕ
byte_before text = if nat_lt (fold before_step 0 text) 256 then fold before_step 0 text else 0

-- the first byte that is no blank, and 0 where there is none
unfoldable pub byte_behind : List ℕ → ℕ
byte_behind [] = 0
byte_behind (b ∷ bs) = if is_blank b then byte_behind bs else b

-- + - * / %
abbrev pub is_sum_sign : ℕ → Bool
is_sum_sign b = nat_eq b 43 || (nat_eq b 45 || (nat_eq b 42 || (nat_eq b 47 || nat_eq b 37)))

abbrev pub is_letter : ℕ → Bool
is_letter b = nat_lt 96 b && nat_lt b 123

-- of bytes that begin no token, with the byte right behind the first: > & | ! " ' . and capital letters
abbrev pub sign_hint : ℕ → ℕ → Option Hint
sign_hint first second =
    if nat_eq first 62 then (if nat_eq second 61 then Some AtLeast else Some Greater)
    else if nat_eq first 38 then (if nat_eq second 38 then Some And else Some Ampersand)
    else if nat_eq first 124 then Some Or
    else if nat_eq first 33 then Some Not
    else if nat_eq first 34 || nat_eq first 39 then Some Text
    else if nat_eq first 46 then (if is_letter second then Some Method else Some Fraction)
    else if nat_lt 64 first && nat_lt first 91 then Some CapitalLetter
    else None

-- of bytes that are no token, with the byte right behind the first one: the least number's digits, or a sign
abbrev pub run_hint : List ℕ → ℕ → Option Hint
run_hint token second = if bytes_eq token (codes "9223372036854775808") then Some LeastNumber else sign_hint (byte_at token 0) second

-- of a byte above 127, at that place: EF BB BF at the text's start
abbrev pub mark_hint : List ℕ → ℕ → Option Hint
mark_hint text place =
    if nat_eq place 0 && (nat_eq (byte_at text 0) 239 && (nat_eq (byte_at text 1) 187 && nat_eq (byte_at text 2) 191)) then Some ByteOrderMark
    else None

-- a statement may begin behind { } ;
abbrev pub is_statement_begun : ℕ → Bool
is_statement_begun before = nat_eq before 123 || (nat_eq before 125 || nat_eq before 59)

-- a statement begins with it
abbrev pub is_statement_word : List ℕ → Bool
is_statement_word token =
    if bytes_eq token (codes "let") || (bytes_eq token (codes "set") || bytes_eq token (codes "if")) then true
    else bytes_eq token (codes "for") || (bytes_eq token (codes "print") || bytes_eq token (codes "return"))

-- a value may end with it: _ ) ] or a small letter or a digit
abbrev pub is_value_end : ℕ → Bool
is_value_end b =
    if nat_eq b 95 || (nat_eq b 41 || nat_eq b 93) then true
    else if nat_lt 96 b && nat_lt b 123 then true
    else nat_lt 47 b && nat_lt b 58

-- a semicolon may be missing before a token
abbrev pub lacks_semicolon : List ℕ → ℕ → Bool
lacks_semicolon token before = if bytes_eq token (codes "}") then true else is_statement_word token && is_value_end before

-- of a token at which a statement was to begin: = ( or a sign stands behind it
abbrev pub statement_hint : ℕ → Option Hint
statement_hint behind =
    if nat_eq behind 61 then Some Assignment
    else if nat_eq behind 40 then Some LoneCall
    else if is_sum_sign behind then Some Statement
    else None

-- a word of a script may have it in it: a small letter, a digit or _
abbrev pub is_in_word : ℕ → Bool
is_in_word b = is_letter b || ((nat_lt 47 b && nat_lt b 58) || nat_eq b 95)

-- how many bytes of a word the last word has behind one byte more: all, too, where blanks or a [ follow it, 99 in another word, and 98 in a comment
abbrev pub word_step : List ℕ → ℕ → ℕ → ℕ
word_step word count b =
    if nat_eq count 98 then (if nat_eq b 10 then 0 else 98)
    else if nat_eq b 35 then 98
    else if is_blank b || nat_eq b 91 then (if nat_eq count (length word) then count else 0)
    else if not (is_in_word b) then 0
    else if nat_lt count (length word) && nat_eq (byte_at word count) b then count + 1
    else 99

-- it ends with exactly that word, and blanks or a [ behind it
abbrev pub is_behind : List ℕ → List ℕ → Bool
is_behind text word = nat_eq (fold (word_step word) 0 text) (length word)

-- as word_step for the word remote, but 7 behind a ( that follows it, and behind digits and blanks there
abbrev pub retry_step : ℕ → ℕ → ℕ
retry_step count b =
    if nat_eq count 6 && nat_eq b 40 then 7
    else if nat_eq count 7 && (is_blank b || (nat_lt 47 b && nat_lt b 58)) then 7
    else word_step (codes "remote") count b

-- it ends in the brackets behind a remote, with no more than one number in them so far
abbrev pub is_retries : List ℕ → Bool
is_retries text = nat_eq (fold retry_step 0 text) 7

-- how many bytes of a word stand behind one byte more, as in word_step: 100 where the statement has had that word, and 98 in a comment
abbrev pub has_step : List ℕ → ℕ → ℕ → ℕ
has_step word count b =
    if nat_eq count 98 then (if nat_eq b 10 then 0 else 98)
    else if is_statement_begun b then 0
    else if nat_eq count 100 then 100
    else if nat_eq b 35 then 98
    else if not (is_in_word b) then (if nat_eq count (length word) then 100 else 0)
    else if nat_lt count (length word) && nat_eq (byte_at word count) b then count + 1
    else 99

-- a word stands in the statement, or the head of a function, with which a text ends
abbrev pub has_word : List ℕ → List ℕ → Bool
has_word text word = nat_eq (fold (has_step word) 0 text) 100

-- how many brackets of a kind are open behind one byte more, and 100 more in a comment, whose brackets are none; none is behind a brace or a ;
abbrev pub open_step : ℕ → ℕ → ℕ → ℕ → ℕ
open_step opens closes count b =
    if nat_lt 99 count then (if nat_eq b 10 then count - 100 else count)
    else if nat_eq b 35 then count + 100
    else if nat_eq b opens && nat_lt count 99 then count + 1
    else if nat_eq b closes && nat_lt 0 count then count - 1
    else if is_statement_begun b then 0
    else count

-- brackets of a kind are open at its end
abbrev pub is_within : List ℕ → ℕ → ℕ → Bool
is_within text opens closes = nat_lt 0 (fold (open_step opens closes) 0 text)

-- twice the braces that are open behind one byte more, and one more in a comment, whose braces are none
abbrev pub brace_step : ℕ → ℕ → ℕ
brace_step count b =
    if nat_eq (count % 2) 1 then (if nat_eq b 10 then count - 1 else count)
    else if nat_eq b 35 && nat_lt count 99 then count + 1
    else if nat_eq b 123 && nat_lt count 99 then count + 2
    else if nat_eq b 125 && nat_lt 1 count then count - 2
    else count

-- it ends outside any function
abbrev pub is_outside : List ℕ → Bool
is_outside text = nat_lt (fold brace_step 0 text) 2

-- what stands behind one byte more: a value's end (1), what a type follows (2), a [ behind the one (3) or the other (4), or else (0); 10 more in a
-- comment
abbrev pub bracket_step : ℕ → ℕ → ℕ
bracket_step kind b =
    if nat_lt 9 kind then (if nat_eq b 10 then kind - 10 else kind)
    else if nat_eq b 35 then kind + 10
    else if is_blank b then kind
    else if nat_eq b 91 then (if nat_eq kind 1 then 3 else if nat_eq kind 2 || nat_eq kind 4 then 4 else 0)
    else if is_value_end b then 1
    else if nat_eq b 58 || nat_eq b 62 then 2
    else 0

abbrev pub bracket_kind : List ℕ → ℕ
bracket_kind text = fold bracket_step 0 text

-- a value stands behind its last word
abbrev pub is_value_wanted : List ℕ → Bool
is_value_wanted text =
    if is_behind text (codes "return") || is_behind text (codes "print") then true
    else if is_behind text (codes "get") || is_behind text (codes "put") then true
    else is_behind text (codes "in") || is_behind text (codes "if")

-- a type stands behind its last word
abbrev pub is_type_wanted : List ℕ → Bool
is_type_wanted text = is_behind text (codes "empty") || is_behind text (codes "ref")

-- a type stands behind it: behind a : or a ->, one of these words, or a [ behind them
abbrev pub is_type_place : List ℕ → Bool
is_type_place text = nat_eq (bracket_kind text) 2 || (nat_eq (bracket_kind text) 4 || is_type_wanted text)

-- a variable's name stands in the statement: a let, a set, or a for without its in
abbrev pub is_variable_named : List ℕ → Bool
is_variable_named front =
    if has_word front (codes "let") || has_word front (codes "set") then true
    else has_word front (codes "for") && not (has_word front (codes "in"))

-- of a ] right behind a [, with which the text before it ends
abbrev pub bracket_hint : List ℕ → Option Hint
bracket_hint front =
    if nat_eq (bracket_kind front) 4 || is_type_wanted front then Some ListType
    else if nat_eq (bracket_kind front) 3 && not (is_value_wanted front) then Some Index
    else Some EmptyList

-- of a :, with the text before it and the last byte of that; behind the = of a variable it is no type's
abbrev pub colon_hint : List ℕ → ℕ → Option Hint
colon_hint front before =
    if is_within front 91 93 then None
    else if is_within front 40 41 then Some NamedArgument
    else if nat_eq before 41 && has_word front (codes "fn") then Some NoResult
    else if is_variable_named front then (if is_within front 61 0 then None else Some VariableType)
    else Some Colon

-- of a {, with the text before it and the last byte of that
abbrev pub brace_hint : List ℕ → ℕ → Option Hint
brace_hint front before =
    if is_within front 40 41 || is_within front 91 93 then Some Unclosed
    else if has_word front (codes "in") then Some Bounds
    else if nat_eq before 41 then Some NoResult
    else None

-- a word of the language
abbrev pub is_reserved : List ℕ → Bool
is_reserved token =
    if is_statement_word token || (bytes_eq token (codes "fn") || bytes_eq token (codes "else")) then true
    else if bytes_eq token (codes "in") || (bytes_eq token (codes "int") || bytes_eq token (codes "ref")) then true
    else if bytes_eq token (codes "remote") || (bytes_eq token (codes "put") || bytes_eq token (codes "get")) then true
    else bytes_eq token (codes "len") || (bytes_eq token (codes "push") || bytes_eq token (codes "empty"))

-- a name stands behind a text that ends with that byte: ( or a comma, or a word before a name
abbrev pub is_name_wanted : List ℕ → ℕ → Bool
is_name_wanted front before =
    if nat_eq before 40 || nat_eq before 44 then true
    else if is_behind front (codes "fn") || is_behind front (codes "let") then true
    else is_behind front (codes "set") || is_behind front (codes "for")

-- of a token at which a statement was to begin, with the byte behind it
abbrev pub inner_hint : List ℕ → ℕ → Option Hint
inner_hint token behind =
    if (nat_eq behind 59 || nat_eq behind 125) && (bytes_eq token (codes "break") || bytes_eq token (codes "continue")) then Some Break
    else if bytes_eq token (codes "remote") || (bytes_eq token (codes "get") || bytes_eq token (codes "put")) then Some LoneValue
    else if bytes_eq token (codes "push") && nat_eq behind 40 then Some LonePush
    else if nat_eq behind 91 && (is_letter (byte_at token 0) && not (is_reserved token)) then Some Item
    else statement_hint behind

-- of a token at which a function or a statement was to begin, with the text before it and the byte behind it
abbrev pub begun_hint : List ℕ → List ℕ → ℕ → Option Hint
begun_hint token front behind =
    if not (is_outside front) then inner_hint token behind
    else if is_letter (byte_at token 0) && not (nat_eq behind 0) then Some Function
    else None

-- a , inside brackets is that of a tuple: it is in no call of len or push, and in no head of a function
abbrev pub is_tuple : List ℕ → ℕ → Bool
is_tuple front before =
    if not (is_value_end before) || not (is_within front 40 41) then false
    else if has_word front (codes "len") || has_word front (codes "push") then false
    else not (has_word front (codes "fn"))

-- of a token behind a set, with the byte behind it
abbrev pub set_hint : List ℕ → List ℕ → ℕ → Option Hint
set_hint token front behind =
    if not (has_word front (codes "set")) || is_behind front (codes "set") then None
    else if bytes_eq token (codes "[") then Some Item
    else if bytes_eq token (codes ",") && not (is_within front 91 93) then Some SetOne
    else if is_sum_sign (byte_at token 0) && (nat_eq behind 61 || nat_eq behind (byte_at token 0)) then Some Sum
    else None

-- of a token behind a word that other languages have there, of such a word, or of a token behind a set
abbrev pub word_hint : List ℕ → List ℕ → ℕ → Option Hint
word_hint token front behind =
    if bytes_eq token (codes "and") then Some And
    else if bytes_eq token (codes "or") then Some Or
    else if is_in_word (byte_at token 0) && is_behind front (codes "not") then Some Not
    else if is_in_word (byte_at token 0) && is_behind front (codes "mut") then Some Mutable
    else set_hint token front behind

-- of a token that stands inside a statement, where no semicolon is missing
abbrev pub place_hint : List ℕ → List ℕ → ℕ → ℕ → Option Hint
place_hint token front before behind =
    if bytes_eq token (codes "(") && is_behind front (codes "for") then Some Bounds
    else if bytes_eq token (codes "(") && is_behind front (codes "let") then Some Tuple
    else if bytes_eq token (codes "(") && is_behind front (codes "set") then Some SetOne
    else if bytes_eq token (codes ",") && is_tuple front before then Some Tuple
    else if bytes_eq token (codes "=") && nat_eq before 46 then Some Inclusive
    else word_hint token front behind

-- a token that the grammar does not allow there is of the // or /* with which a comment begins elsewhere
abbrev pub is_slash_comment : List ℕ → ℕ → ℕ → Bool
is_slash_comment token before behind =
    if bytes_eq token (codes "/") then nat_eq before 47 || (nat_eq behind 47 || nat_eq behind 42)
    else bytes_eq token (codes "*") && nat_eq before 47

-- a name, or a (, where a type stands
abbrev pub is_type_word : List ℕ → List ℕ → Bool
is_type_word token front = if not (is_letter (byte_at token 0)) && not (bytes_eq token (codes "(")) then false else is_type_place front

-- of a token that is none of those that mark_place_hint tells by themselves
abbrev pub inside_hint : List ℕ → List ℕ → ℕ → ℕ → Option Hint
inside_hint token front before behind =
    if is_retries front then Some Retries
    else if is_type_word token front then Some TypeName
    else if is_reserved token && is_name_wanted front before then Some Reserved
    else if nat_eq before 0 || is_statement_begun before then begun_hint token front behind
    else if not (lacks_semicolon token before) then place_hint token front before behind
    else if is_within front 91 93 || is_within front 40 41 then Some Unclosed
    else Some Semicolon

-- of a :, of a bracket, of what stands behind a comma, and of a for in a list; else as inside_hint
abbrev pub mark_place_hint : List ℕ → List ℕ → ℕ → ℕ → Option Hint
mark_place_hint token front before behind =
    if bytes_eq token (codes ":") then colon_hint front before
    else if bytes_eq token (codes "{") then brace_hint front before
    else if bytes_eq token (codes "]") && nat_eq before 91 then bracket_hint front
    else if nat_eq before 44 && (bytes_eq token (codes "]") || bytes_eq token (codes ")")) then Some LastComma
    else if bytes_eq token (codes "for") && is_within front 91 93 then Some ListLoop
    else inside_hint token front before behind

-- an if behind an else, or an elif behind a block
abbrev pub is_else_if : List ℕ → List ℕ → ℕ → Bool
is_else_if token front before =
    if bytes_eq token (codes "elif") then nat_eq before 125
    else bytes_eq token (codes "if") && is_behind front (codes "else")

-- of a token that the grammar does not allow there, with the text before it and the bytes before and behind it that are no blanks
abbrev pub token_hint : List ℕ → List ℕ → ℕ → ℕ → Option Hint
token_hint token front before behind =
    if bytes_eq token (codes "while") then Some While
    else if is_else_if token front before then Some ElseIf
    else if is_slash_comment token before behind then Some SlashComment
    else mark_place_hint token front before behind

-- of a name that is not in scope
abbrev pub name_hint : List ℕ → Option Hint
name_hint name =
    if bytes_eq name (codes "true") || bytes_eq name (codes "false") then Some Truth
    else if bytes_eq name (codes "not") then Some Not
    else None

-- the bytes of a span
abbrev pub span_bytes : List ℕ → ℕ → ℕ → List ℕ
span_bytes text start end = take (end - start) (drop start text)

-- of a span that is refused with that number
abbrev pub hint_at : ℕ → List ℕ → ℕ → ℕ → Option Hint
hint_at code text start end =
    if nat_eq code 1 then mark_hint text start
    else if nat_eq code 2 then run_hint (span_bytes text start end) (byte_at text (start + 1))
    else if nat_eq code 3 then token_hint (span_bytes text start end) (take start text) (byte_before (take start text)) (byte_behind (drop end text))
    else if nat_eq code 10 then name_hint (span_bytes text start end)
    else None

-- the same, where the span lies in the text
abbrev pub hint_of : ℕ → List ℕ → ℕ → ℕ → Option Hint
hint_of code text start end = if nat_lt (length text) end || nat_lt end start then None else hint_at code text start end

abbrev pub hint_words : Hint → List ℕ
hint_words Greater = codes "there is no >: a > b is b < a"
hint_words AtLeast = codes "there is no >=: a >= b is b <= a"
hint_words And = codes "there is no && and no word and: one if stands inside another, or a * b where both are 0 or 1"
hint_words Ampersand = codes "there is no &: put 1 makes a reference, of the type ref int, and nothing works on bits"
hint_words Or = codes "there is no ||, no | and no word or: 0 < a + b, where both are 0 or 1"
hint_words Not = codes "there is no !, no word not and no macro: not a is a == 0"
hint_words Text = codes "there are no texts: values are numbers, lists and references"
hint_words Fraction = codes "there are no fractions, and .. stands between the bounds of a loop"
hint_words Method = codes "there are no methods: push(l, 3), len(l), remote f(1), get r"
hint_words CapitalLetter = codes "names have small letters, digits and _ alone"
hint_words SlashComment = codes "a comment begins with # and ends with its line, and a quotient is written a / b"
hint_words While = codes "there is no while: a for over as many turns as there may be, in a function that returns when it is done"
hint_words ElseIf = codes "there is no else if and no elif: else { if a { } }"
hint_words Assignment = codes "let x = 2; makes a variable, and set x = 2; gives it another value"
hint_words Statement = codes "a statement begins with let, set, if, for, print or return: set x = x + 1;"
hint_words LoneCall = codes "a call alone is no statement: let unused = f();"
hint_words LonePush = codes "push gives a new list: set l = push(l, 3);"
hint_words LoneValue = codes "a value alone is no statement: let r = remote f(); let x = get r;"
hint_words Break = codes "there is no break and no continue: a return ends a loop and its function, and an if leaves out a part of a turn"
hint_words Item = codes "no item of a list can be set: set m = push(m, x); in a loop makes a new list"
hint_words Sum = codes "a variable's new value is written whole: set x = x + 1;"
hint_words Mutable = codes "there is no mut, since every variable can be set: let x = 1; set x = 2;"
hint_words Tuple = codes "there are no tuples: [1, 2] is a list, return 1, 2; gives two results, and let a, b = f(); takes them"
hint_words ListLoop = codes "a [ before it is not closed, and no for stands in a list: set l = push(l, x); in a loop makes one"
hint_words EmptyList = codes "an empty list says of which type its items are: empty int"
hint_words ListType = codes "a list's type names that of its items: [int]"
hint_words Index = codes "an index stands between the brackets: l[0]"
hint_words LastComma = codes "no comma stands behind the last one"
hint_words Colon = codes "a block stands in { } and not behind a :"
hint_words VariableType = codes "a variable's type isn't written: let x = 1;"
hint_words TypeName = codes "the types are int, [int] for a list, and ref int for a reference"
hint_words SetOne = codes "set gives one variable a value: let a, b = f(); set x = a; set y = b;"
hint_words NoResult = codes "a function says of which type its result is: fn f() -> int { }"
hint_words Bounds = codes "a loop counts from one bound to another: for i in 0 .. len(l) { let x = l[i]; }"
hint_words Inclusive = codes "there is no ..=, and a loop leaves out its second bound: for i in 1 .. n + 1 { }"
hint_words Retries = codes "one number alone stands in the brackets behind remote, how many retries there may be: remote(2) f(1)"
hint_words Truth = codes "there are no truth values: 1 and 0 stand for them"
hint_words Semicolon = codes "a statement ends with ;, the block of an if or a for stands in { }, and an if is no value"
hint_words Unclosed = codes "a ( or a [ before it is not closed"
hint_words NamedArgument = codes "an argument has no name: f(1)"
hint_words Reserved = codes "this is a word of the language, and can't be a name"
hint_words Function = codes "a function begins with fn, and every statement stands in one"
hint_words ByteOrderMark = codes "a byte order mark stands before the script: save the file without one"
hint_words LeastNumber = codes "the least number is written -9223372036854775807 - 1"
