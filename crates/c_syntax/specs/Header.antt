-- The headers of the C library, and the tokens that they stand for.
use Rattle.std.specs.Prelude.{ℕ, List, [], ◌∷◌, ◌++◌, Option, codes}
use Rattle.c_syntax.specs.declared.token.Kind.{Kind}
use Rattle.c_syntax.specs.declared.token.Kind.TheVariants as kind
use Rattle.c_syntax.specs.declared.token.RawKind.TheVariants.{Plain, Hash, Wide}
use Rattle.c_syntax.specs.declared.token.Token.{Token}
use Rattle.c_syntax.specs.declared.header.Header.{Header}
use Rattle.c_syntax.specs.declared.header.Header.TheVariants.{Stdio, Stdlib, String}
use Rattle.c_syntax.specs.declared.scan.Found.{Found}
use Rattle.c_syntax.specs.declared.scan.Found.TheVariants as found
use Rattle.c_syntax.specs.declared.scan.Piece.{Piece}
use Rattle.c_syntax.specs.Words.{meaning}
use Rattle.c_syntax.specs.Scan.{pieces}

abbrev pub headers : List (List ℕ × Header)
headers = (codes "stdio", Stdio) ∷ (codes "stdlib", Stdlib) ∷ (codes "string", String) ∷ []

-- the header of this name, without its `.h`
unfoldable pub header_named : List ℕ → Option Header
header_named word = meaning headers word

unfoldable pub text_of : Header → List ℕ
text_of Stdio = []
text_of Stdlib = codes "int abs(int a){return a<0?-a:a;}"
text_of String =
    codes "unsigned strlen(const char *s){unsigned n=0;while(s[n])n++;return n;}"
    ++ (codes "int strcmp(const char *a,const char *b){unsigned char x,y;while(*a&&*a==*b){a++;b++;}x=*a;y=*b;return x<y?-1:x>y;}"
    ++ (codes "char *strcpy(char *d,const char *s){char *r=d;while(*d++=*s++);return r;}"
    ++ (codes "void *memset(void *p,int c,unsigned n){char *q=p;while(n){*q++=c;n--;}return p;}"
    ++ codes "void *memcpy(void *d,const void *s,unsigned n){char *q=d;const char *r=s;while(n){*q++=*r++;n--;}return d;}")))

abbrev pub kind_at : Kind → ℕ → List Token
kind_at kind.End pos = []
kind_at k pos = record { kind = k; pos = pos } ∷ []

abbrev pub token_at : Found → ℕ → List Token
token_at (found.Token (Plain k)) pos = kind_at k pos
token_at (found.Token Hash) pos = []
token_at (found.Token Wide) pos = []
token_at found.BadChar pos = []
token_at found.Unclosed pos = []

-- the tokens of a text, all at one place
abbrev pub tokens_at : ℕ → List Piece → List Token
tokens_at pos [] = []
tokens_at pos (p ∷ ps) = token_at p.found pos ++ tokens_at pos ps

-- the tokens of a header's text
unfoldable pub header_tokens : Header → ℕ → List Token
header_tokens header pos = tokens_at pos (pieces (text_of header))
