-- A fact of each of eight.
use Rattle.std.proofs.Common.{[], ◌∷◌, All, rules}
use Rattle.std.proofs.lemmas.List.Elements.{All-cons}

none : {X : Type 0} (P : X → Type 0) → All P []
none P = search rules

pub each : {X : Type 0} (P : X → Type 0) (a b c d e f g h : X) → P a → P b → P c → P d → P e → P f → P g → P h
    → All P (a ∷ b ∷ c ∷ d ∷ e ∷ f ∷ g ∷ h ∷ [])
each P a b c d e f g h pa pb pc pd pe pf pg ph =
    let p7 : All P (h ∷ []) = All-cons P h ([]) ph (none P) in
    let p6 : All P (g ∷ h ∷ []) = All-cons P g (h ∷ []) pg p7 in
    let p5 : All P (f ∷ g ∷ h ∷ []) = All-cons P f (g ∷ h ∷ []) pf p6 in
    let p4 : All P (e ∷ f ∷ g ∷ h ∷ []) = All-cons P e (f ∷ g ∷ h ∷ []) pe p5 in
    let p3 : All P (d ∷ e ∷ f ∷ g ∷ h ∷ []) = All-cons P d (e ∷ f ∷ g ∷ h ∷ []) pd p4 in
    let p2 : All P (c ∷ d ∷ e ∷ f ∷ g ∷ h ∷ []) = All-cons P c (d ∷ e ∷ f ∷ g ∷ h ∷ []) pc p3 in
    let p1 : All P (b ∷ c ∷ d ∷ e ∷ f ∷ g ∷ h ∷ []) = All-cons P b (c ∷ d ∷ e ∷ f ∷ g ∷ h ∷ []) pb p2 in
    All-cons P a (b ∷ c ∷ d ∷ e ∷ f ∷ g ∷ h ∷ []) pa p1
