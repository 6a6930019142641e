mod Folds
