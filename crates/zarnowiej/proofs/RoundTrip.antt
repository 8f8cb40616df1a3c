-- A session that crosses out and in again, or in and out, is the session that it was: so calls may follow each other across, and a
-- refusal gives back the session that it got.
use mathlib.Core.Path.{◌≡◌, ap, ◌∙◌}
use mathlib.Core.List.{map-id, map-map}
use Rattle.session.specs.declared.state.Session.{Session as InnerSession}
use Rattle.zarnowiej.specs.declared.plain.Session.{Session}
use Rattle.zarnowiej.specs.Crossing.{mark_in, mark_out, session_in, session_out}

pub out_in : (s : InnerSession) → session_in (session_out s) ≡ s
out_in s =
    ap (λ ms. record { forms = s.forms; lines = s.lines; literals = s.literals; «open» = s.«open»; marks = ms })
    (map-map mark_in mark_out s.marks ∙ map-id s.marks)

pub in_out : (s : Session) → session_out (session_in s) ≡ s
in_out s =
    ap (λ ms. record { forms = s.forms; lines = s.lines; literals = s.literals; «open» = s.«open»; marks = ms })
    (map-map mark_out mark_in s.marks ∙ map-id s.marks)
