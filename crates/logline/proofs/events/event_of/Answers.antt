-- What each form's event says is what its fields hold, and none of these is missing.
use Rattle.std.proofs.Common.{map, refl, arith}
use Rattle.logline.specs.declared.forms.Word.TheVariants.{Open, Enrol, Play, Ask, Range, List as Listing}
use Rattle.logline.specs.declared.forms.Name.TheVariants.{Kind, Window, Fine, Seed, Cab, T, Span, From, To, Least}
use Rattle.logline.specs.Fields.{content_of}
use Rattle.logline.proofs.Rebuilding.{missed, ended, last, more, same_said}
use Rattle.logline.proofs.events.event_of.Goals as goal

pub returns-in_err-kind_at-in-Open : goal.returns-in_err-kind_at-in-Open
returns-in_err-kind_at-in-Open c = record { held = λ f. absurd (missed c.args.word Open _ c.in-Open.is f 0 Kind _ refl (omega arith) c.in_err-kind_at-in-Open.ensures.held) }

pub returns-in_err-number_at-in-Open : goal.returns-in_err-number_at-in-Open
returns-in_err-number_at-in-Open c = record { held = λ f. absurd (missed c.args.word Open _ c.in-Open.is f 1 Window _ refl (omega arith) c.in_err-number_at-in-Open.ensures.held) }

pub returns-in_err-number_at-in-Open-2 : goal.returns-in_err-number_at-in-Open-2
returns-in_err-number_at-in-Open-2 c = record { held = λ f. absurd (missed c.args.word Open _ c.in-Open.is f 2 Fine _ refl (omega arith) c.in_err-number_at-in-Open-2.ensures.held) }

pub returns-in_err-number_at-in-Open-3 : goal.returns-in_err-number_at-in-Open-3
returns-in_err-number_at-in-Open-3 c = record { held = λ f. absurd (missed c.args.word Open _ c.in-Open.is f 3 Seed _ refl (omega arith) c.in_err-number_at-in-Open-3.ensures.held) }

pub returns-in_ok-number_at-in-Open-3 : goal.returns-in_ok-number_at-in-Open-3
returns-in_ok-number_at-in-Open-3 c =
    let vs = map content_of c.args.list.now in
    record { held = λ f. same_said c.in-Open.is (more vs _ 0 _ c.in_ok-kind_at-in-Open.ensures.held (more vs _ 1 _ c.in_ok-number_at-in-Open.ensures.held (more vs _ 2 _ c.in_ok-number_at-in-Open-2.ensures.held (more vs _ 3 _ c.in_ok-number_at-in-Open-3.ensures.held (ended c.args.word Open vs c.in-Open.is f 4 refl))))) }

pub returns-in_err-serial_at-in-Enrol : goal.returns-in_err-serial_at-in-Enrol
returns-in_err-serial_at-in-Enrol c = record { held = λ f. absurd (missed c.args.word Enrol _ c.in-Enrol.is f 0 Cab _ refl (omega arith) c.in_err-serial_at-in-Enrol.ensures.held) }

pub returns-in_ok-serial_at-in-Enrol : goal.returns-in_ok-serial_at-in-Enrol
returns-in_ok-serial_at-in-Enrol c =
    let vs = map content_of c.args.list.now in
    record { held = λ f. same_said c.in-Enrol.is (more vs _ 0 _ c.in_ok-serial_at-in-Enrol.ensures.held (ended c.args.word Enrol vs c.in-Enrol.is f 1 refl)) }

pub returns-in_err-serial_at-in-Play : goal.returns-in_err-serial_at-in-Play
returns-in_err-serial_at-in-Play c = record { held = λ f. absurd (missed c.args.word Play _ c.in-Play.is f 0 Cab _ refl (omega arith) c.in_err-serial_at-in-Play.ensures.held) }

pub returns-in_err-number_at-in-Play : goal.returns-in_err-number_at-in-Play
returns-in_err-number_at-in-Play c = record { held = λ f. absurd (missed c.args.word Play _ c.in-Play.is f 1 T _ refl (omega arith) c.in_err-number_at-in-Play.ensures.held) }

pub returns-in_ok-number_at-in-Play : goal.returns-in_ok-number_at-in-Play
returns-in_ok-number_at-in-Play c =
    let vs = map content_of c.args.list.now in
    record { held = λ f. same_said c.in-Play.is (more vs _ 0 _ c.in_ok-serial_at-in-Play.ensures.held (more vs _ 1 _ c.in_ok-number_at-in-Play.ensures.held (ended c.args.word Play vs c.in-Play.is f 2 refl))) }

pub returns-in_err-serial_at-in-Ask : goal.returns-in_err-serial_at-in-Ask
returns-in_err-serial_at-in-Ask c = record { held = λ f. absurd (missed c.args.word Ask _ c.in-Ask.is f 0 Cab _ refl (omega arith) c.in_err-serial_at-in-Ask.ensures.held) }

pub returns-in_err-number_at-in-Ask : goal.returns-in_err-number_at-in-Ask
returns-in_err-number_at-in-Ask c = record { held = λ f. absurd (missed c.args.word Ask _ c.in-Ask.is f 1 T _ refl (omega arith) c.in_err-number_at-in-Ask.ensures.held) }

pub returns-in_ok-number_at-in-Ask : goal.returns-in_ok-number_at-in-Ask
returns-in_ok-number_at-in-Ask c =
    let vs = map content_of c.args.list.now in
    record { held = λ f. same_said c.in-Ask.is (more vs _ 0 _ c.in_ok-serial_at-in-Ask.ensures.held (more vs _ 1 _ c.in_ok-number_at-in-Ask.ensures.held (last c.args.word Ask vs c.in-Ask.is f 2 Span _ refl refl c.number_at-in-Ask-2.ensures.held))) }

pub returns-in_err-number_at-in-Range : goal.returns-in_err-number_at-in-Range
returns-in_err-number_at-in-Range c = record { held = λ f. absurd (missed c.args.word Range _ c.in-Range.is f 0 From _ refl (omega arith) c.in_err-number_at-in-Range.ensures.held) }

pub returns-in_err-number_at-in-Range-2 : goal.returns-in_err-number_at-in-Range-2
returns-in_err-number_at-in-Range-2 c = record { held = λ f. absurd (missed c.args.word Range _ c.in-Range.is f 1 To _ refl (omega arith) c.in_err-number_at-in-Range-2.ensures.held) }

pub returns-in_err-number_at-in-Range-3 : goal.returns-in_err-number_at-in-Range-3
returns-in_err-number_at-in-Range-3 c = record { held = λ f. absurd (missed c.args.word Range _ c.in-Range.is f 2 T _ refl (omega arith) c.in_err-number_at-in-Range-3.ensures.held) }

pub returns-in_ok-number_at-in-Range-3 : goal.returns-in_ok-number_at-in-Range-3
returns-in_ok-number_at-in-Range-3 c =
    let vs = map content_of c.args.list.now in
    record { held = λ f. same_said c.in-Range.is (more vs _ 0 _ c.in_ok-number_at-in-Range.ensures.held (more vs _ 1 _ c.in_ok-number_at-in-Range-2.ensures.held (more vs _ 2 _ c.in_ok-number_at-in-Range-3.ensures.held (last c.args.word Range vs c.in-Range.is f 3 Span _ refl refl c.number_at-in-Range-4.ensures.held)))) }

pub returns-in_err-number_at-in-List : goal.returns-in_err-number_at-in-List
returns-in_err-number_at-in-List c = record { held = λ f. absurd (missed c.args.word Listing _ c.in-List.is f 0 Least _ refl (omega arith) c.in_err-number_at-in-List.ensures.held) }

pub returns-in_err-number_at-in-List-2 : goal.returns-in_err-number_at-in-List-2
returns-in_err-number_at-in-List-2 c = record { held = λ f. absurd (missed c.args.word Listing _ c.in-List.is f 1 T _ refl (omega arith) c.in_err-number_at-in-List-2.ensures.held) }

pub returns-in_ok-number_at-in-List-2 : goal.returns-in_ok-number_at-in-List-2
returns-in_ok-number_at-in-List-2 c =
    let vs = map content_of c.args.list.now in
    record { held = λ f. same_said c.in-List.is (more vs _ 0 _ c.in_ok-number_at-in-List.ensures.held (more vs _ 1 _ c.in_ok-number_at-in-List-2.ensures.held (last c.args.word Listing vs c.in-List.is f 2 Span _ refl refl c.number_at-in-List-3.ensures.held))) }
