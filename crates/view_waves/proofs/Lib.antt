mod Folds
mod Fronts
mod ItemTexts
mod LineKinds
mod Splits
mod StepLists
mod Viewers
